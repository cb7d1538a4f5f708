-- One reading call of a register after another.
use Rattle.std.proofs.Common.{◌≡◌, refl, sym, subst, ap, ◌∙◌, Result, Ok, Err, arith}
use Rattle.desk_rules.specs.Content.{Content}
use Rattle.desk_register.specs.declared.register.Fault.{Fault}
use Rattle.desk_register.specs.declared.register.Stage.TheVariants.{Idle}
use Rattle.desk_register.specs.View.{View, IsLater, Falls, HasRead, IsRead, fallen}
use Rattle.desk_register.proofs.ViewLemmas.{blames_none, blames_then, later_then, same_blame, stays_then}

module _ (a b c : View) (p : HasRead a b) where
  -- and a call that failed
  pub falls_read : IsLater b c → Falls b c → Falls a c
  falls_read later falls = record {
    stage = falls.stage ∙ ap fallen p.ok.stage;
    mark = λ h s. (let h1 = later.honest h in let s1 = later.sure h s in falls.mark h s ∙ p.ok.mark h1 (p.later.sure h1 s1));
    content = λ h s idle. (let h1 = later.honest h in let s1 = later.sure h s in falls.content h s (p.ok.stage ∙ idle) ∙ p.same h1 (p.later.sure h1 s1));
  }

  -- and one that went well, or failed
  pub read_then : {X : Type 0} (r : Result X Fault) → IsRead r b c → IsRead r a c
  read_then (Ok x) q = record {
    same = λ h s. (let h1 = q.later.honest h in q.same h (p.ok.sure h1 s) ∙ p.same h1 s);
    ok = stays_then a b c p.ok p.later q.later q.ok;
    err = tt;
    later = later_then a b c p.ok p.later q.later;
    blame = blames_none x a c;
  }
  read_then (Err fault) q = record {
    same = λ h s. tt;
    ok = tt;
    err = falls_read q.later q.err;
    later = later_then a b c p.ok p.later q.later;
    blame = blames_then a b c p.ok p.later fault q.later q.blame;
  }

-- a call that went well, or failed, with another answer
pub read_ok : {X Y : Type 0} (x : X) (y : Y) (a b : View) → IsRead (Ok x) a b → IsRead (Ok y) a b
read_ok x y a b p = record { same = p.same; ok = p.ok; err = tt; later = p.later; blame = blames_none y a b }

pub read_err : {X Y : Type 0} (fault : Fault) (a b : View) → IsRead {X = X} (Err fault) a b → IsRead {X = Y} (Err fault) a b
read_err fault a b p = record { same = λ h s. tt; ok = tt; err = p.err; later = p.later; blame = same_blame fault a b p.blame }

-- nothing was asked yet
pub read_none : (a : View) → HasRead a a
read_none a = record {
  same = λ h s. refl;
  ok = record { stage = refl; sure = λ h s. s; mark = λ h s. refl; device = λ h s. s };
  err = tt;
  later = record { honest = λ h. h; sure = λ h s. s; room = refl; device_honest = λ h. h; failures = omega arith };
  blame = blames_none tt a a;
}

-- one call, whatever it answered
pub read_one : {X : Type 0} (x : X) (a b : View) → IsRead (Ok x) a b → HasRead a b
read_one x a b p = read_ok x tt a b p

-- one call more
pub read_more : {X : Type 0} (x : X) (a b c : View) → HasRead a b → IsRead (Ok x) b c → HasRead a c
read_more x a b c p q = read_then a b c p (Ok tt) (read_one x b c q)

module _ (a b : View) (p : HasRead a b) where
  -- where a register still stands as it did
  pub read_idle : a.stage ≡ Idle → b.stage ≡ Idle
  read_idle idle = p.ok.stage ∙ idle

  -- what held of what was read holds still, and held before
  module _ (P : Content → Type 0) (honest : b.is_honest) (sure : a.is_sure) where
    pub kept_so : P a.content → P b.content
    kept_so holds = subst P (sym (p.same honest sure)) holds

    pub held_so : P b.content → P a.content
    held_so holds = subst P (p.same honest sure) holds
