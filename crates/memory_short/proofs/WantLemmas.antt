-- The places that wait, after what a pair waits for was put in or taken out.
use Rattle.std.proofs.Common.{◌≡◌, ℕ, ◌<◌, ◌≤◌, Bool, true, false, Option, Some, None, refl, ap, sym, ◌∙◌, subst, arith}
use Rattle.std.specs.Prelude.{◌&&◌, is_some, IfNone, Result, Ok, Err, OnOk}
use Rattle.std.specs.Ordering.{is_eq, nat_cmp}
use Rattle.std.specs.Cmp.{tied_then}
use Rattle.std.proofs.lemmas.Bool.{and_parts}
use Rattle.std.proofs.lemmas.Map.Lookups.{exact_unsigned}
use Rattle.desk_codes.specs.declared.currency.Ccy.{Ccy}
use Rattle.desk_msg.specs.declared.instruction.Cash.{Cash}
use Rattle.desk_rules.specs.declared.history.pair.Lack.{Lack}
use Rattle.desk_rules.specs.declared.history.pair.Lack.TheVariants.{Securities, Money}
use Rattle.desk_rules.specs.declared.history.pair.Place.{Place}
use Rattle.desk_register.proofs.CaseLemmas.{by_bool}
use Rattle.memory_rows.specs.Transfers.{Transfer}
use Rattle.desk_rules.specs.Places.{place_cmp}
use Rattle.memory_short.specs.Wants.{AreWaiting, FewerWait, IsAsked, IsWantOf, KeepsOtherWaits, NoneWaits, Waits, amount_cmp, how_many, is_waiting, less_given, more_given, want_cmp}
use Rattle.memory_short.specs.declared.wants.Want.{Want}
use Rattle.memory_short.specs.declared.wants.Want.TheVariants.{MoreHeld, LessHeld, MoreCash}
use Rattle.memory_short.proofs.PlaceCases.{equal_if, no_second}
use Rattle.memory_short.proofs.WantOrder.{exact_want}

-- one place that waits for so much of one want is another
abbrev pub is_same : Want → ℕ → Place → Want → ℕ → Place → Bool
is_same want amount here w a q = is_eq (want_cmp want w) && is_eq (amount_cmp (amount, here) (a, q))

-- all but one wait as before
abbrev pub KeepsOtherKeys : Want → ℕ → Place → Waits → Waits → Type 0
KeepsOtherKeys want amount here old new = (w : Want) (a : ℕ) (q : Place) → is_same want amount here w a q ≡ false → is_waiting new w a q ≡ is_waiting old w a q

other_place : (want w : Want) (amount a : ℕ) (here at : Place) → is_eq (place_cmp here at) ≡ false → is_same want amount here w a at ≡ false
other_place want w amount a here at apart =
    no_second (is_eq (want_cmp want w)) (is_eq (amount_cmp (amount, here) (a, at)))
    (sym (tied_then (nat_cmp amount a) (place_cmp here at)) ∙ no_second (is_eq (nat_cmp amount a)) (is_eq (place_cmp here at)) apart)

pub others_wait : (old new : Waits) (want : Want) (amount : ℕ) (here : Place) → KeepsOtherKeys want amount here old new → KeepsOtherWaits here old new
others_wait old new want amount here others = record { each = λ w a at apart. others w a at (other_place want w amount a here at apart) }

pub others_both : (here : Place) (old mid new : Waits) → KeepsOtherWaits here old mid → KeepsOtherWaits here mid new → KeepsOtherWaits here old new
others_both here old mid new first second = record { each = λ w a at apart. second.each w a at apart ∙ first.each w a at apart }

one_key : (want w : Want) (amount a : ℕ) (here at : Place) → is_same want amount here w a at ≡ true → (want ≡ w) × (amount ≡ a)
one_key want w amount a here at tied =
    let both = and_parts (is_eq (want_cmp want w)) (is_eq (amount_cmp (amount, here) (a, at))) tied in
    let parts = and_parts (is_eq (nat_cmp amount a)) (is_eq (place_cmp here at)) (tied_then (nat_cmp amount a) (place_cmp here at) ∙ both.1) in
    (exact_want want w (equal_if (want_cmp want w) both.0), exact_unsigned amount a (equal_if (nat_cmp amount a) parts.0))

-- what waits now and did not is what was put in
pub was_put : (old new : Waits) (want : Want) (amount : ℕ) (here : Place) → KeepsOtherKeys want amount here old new → (w : Want) (a : ℕ) → is_waiting new w a here ≡ true → is_waiting old w a here ≡ false → (want ≡ w) × (amount ≡ a)
was_put old new want amount here others w a is was = by_bool (is_same want amount here w a here)
    (λ tied. one_key want w amount a here here tied)
    (λ apart. let bad = sym is ∙ others w a here apart ∙ was in absurd (cc))

-- What a pair waits for, by what it lacks.

pub by_securities : {G : Type 0} (t : Transfer) (w : Want) (a : ℕ) → IsWantOf t Securities w a → (more_given t ≡ w → t.quantity ≡ a → G) → G
by_securities t (MoreHeld account isin) a (e, x, y, z) then = then (λ k. MoreHeld (sym x k) (sym y k)) (sym z)
by_securities t (LessHeld account isin) a (e, x, y, z) then = absurd (cc)
by_securities t (MoreCash bic ccy) a (e, x, y) then = absurd (cc)

asked_one : {G : Type 0} (asked : Option Cash) (ccy : Ccy) (a : ℕ) → IsAsked asked ccy a → ((c : Cash) → asked ≡ Some c → c.ccy ≡ ccy → c.amount ≡ a → G) → G
asked_one None ccy a is then = absurd is
asked_one (Some c) ccy a is then = then c refl (sym is.0) (sym is.1)

pub by_money : {G : Type 0} (t : Transfer) (w : Want) (a : ℕ) → IsWantOf t Money w a → (less_given t ≡ w → t.quantity ≡ a → G) → ((c : Cash) → t.cash ≡ Some c → MoreCash t.receiver c.ccy ≡ w → c.amount ≡ a → G) → G
by_money t (MoreHeld account isin) a (e, x, y, z) held paid = absurd (cc)
by_money t (LessHeld account isin) a (e, x, y, z) held paid = held (λ k. LessHeld (sym x k) (sym y k)) (sym z)
by_money t (MoreCash bic ccy) a (e, x, asked) held paid = asked_one t.cash ccy a asked (λ c is same much. paid c is (λ k. MoreCash (sym x k) (same k)) much)

pub wants_more : (t : Transfer) → IsWantOf t Securities (more_given t) t.quantity
wants_more t = (refl, refl, refl, refl)

pub wants_less : (t : Transfer) → IsWantOf t Money (less_given t) t.quantity
wants_less t = (refl, refl, refl, refl)

pub wants_cash : (t : Transfer) (c : Cash) → t.cash ≡ Some c → IsWantOf t Money (MoreCash t.receiver c.ccy) c.amount
wants_cash t c is = (refl, refl, subst (λ z. IsAsked z c.ccy c.amount) (sym is) (refl, refl))

at_key : (waits : Waits) (here : Place) (b : Bool) (want w : Want) (amount a : ℕ) → want ≡ w → amount ≡ a → is_waiting waits want amount here ≡ b → is_waiting waits w a here ≡ b
at_key waits here b want w amount a same much is = subst (λ z. is_waiting waits z a here ≡ b) same (subst (λ n. is_waiting waits want n here ≡ b) much is)

of_key : (t : Transfer) (lack : Lack) (want w : Want) (amount a : ℕ) → want ≡ w → amount ≡ a → IsWantOf t lack want amount → IsWantOf t lack w a
of_key t lack want w amount a same much is = subst (λ z. IsWantOf t lack z a) same (subst (λ n. IsWantOf t lack want n) much is)

one_cash : (t : Transfer) (c d : Cash) → t.cash ≡ Some c → t.cash ≡ Some d → c ≡ d
one_cash t c d first second = let both : Some c ≡ Some d = sym first ∙ second in (let same : c ≡ d = cc in same)

-- Wants that are put in.

module _ (t : Transfer) (here : Place) where
  pub put_securities : (new : Waits) → is_waiting new (more_given t) t.quantity here ≡ true → AreWaiting new t Securities here
  put_securities new there = record { each = λ w a is. by_securities t w a is (λ same much. at_key new here true (more_given t) w t.quantity a same much there) }

  pub only_securities : (old new : Waits) → KeepsOtherKeys (more_given t) t.quantity here old new → (w : Want) (a : ℕ) → is_waiting new w a here ≡ true → is_waiting old w a here ≡ false → IsWantOf t Securities w a
  only_securities old new others w a is was = let same = was_put old new (more_given t) t.quantity here others w a is was in of_key t Securities (more_given t) w t.quantity a same.0 same.1 (wants_more t)

  pub only_less : (old new : Waits) → KeepsOtherKeys (less_given t) t.quantity here old new → (w : Want) (a : ℕ) → is_waiting new w a here ≡ true → is_waiting old w a here ≡ false → IsWantOf t Money w a
  only_less old new others w a is was = let same = was_put old new (less_given t) t.quantity here others w a is was in of_key t Money (less_given t) w t.quantity a same.0 same.1 (wants_less t)

  pub put_free : (new : Waits) → t.cash ≡ None → is_waiting new (less_given t) t.quantity here ≡ true → AreWaiting new t Money here
  put_free new free there = record {
    each = λ w a is. by_money t w a is (λ same much. at_key new here true (less_given t) w t.quantity a same much there) (λ c paid same much. let bad = sym free ∙ paid in absurd (cc));
  }

  module _ (c : Cash) (paid : t.cash ≡ Some c) where
    pub put_money : (mid new : Waits) → is_waiting mid (less_given t) t.quantity here ≡ true → ((w : Want) (a : ℕ) (q : Place) → is_waiting mid w a q ≡ true → is_waiting new w a q ≡ true)
        → is_waiting new (MoreCash t.receiver c.ccy) c.amount here ≡ true → AreWaiting new t Money here
    put_money mid new less all more = record {
      each = λ w a is. by_money t w a is (λ same much. at_key new here true (less_given t) w t.quantity a same much (all (less_given t) t.quantity here less)) (λ d own same much.
          let one = one_cash t d c own paid in
          at_key new here true (MoreCash t.receiver c.ccy) w c.amount a (ap (λ z. MoreCash t.receiver z.ccy) (sym one) ∙ same) (ap (λ z. z.amount) (sym one) ∙ much) more);
    }

    pub only_money : (old mid new : Waits) → KeepsOtherKeys (less_given t) t.quantity here old mid → KeepsOtherKeys (MoreCash t.receiver c.ccy) c.amount here mid new
        → (w : Want) (a : ℕ) → is_waiting new w a here ≡ true → is_waiting old w a here ≡ false → IsWantOf t Money w a
    only_money old mid new first second w a is was = by_bool (is_waiting mid w a here)
        (λ there. only_less old mid first w a there was)
        (λ none. let same = was_put mid new (MoreCash t.receiver c.ccy) c.amount here second w a is none in of_key t Money (MoreCash t.receiver c.ccy) w c.amount a same.0 same.1 (wants_cash t c paid))

-- Wants that are taken out.

pub fewer_wait : (old new : Waits) → ((w : Want) (a : ℕ) (q : Place) → is_waiting old w a q ≡ false → is_waiting new w a q ≡ false) → ((w : Want) → how_many new w ≤ how_many old w) → FewerWait old new
fewer_wait old new all most = record {
  each = λ w a at is. by_bool (is_waiting old w a at) (λ there. there) (λ none. let bad = sym is ∙ all w a at none in absurd (cc));
  len = most;
}

pub fewer_both : (old mid new : Waits) → FewerWait old mid → FewerWait mid new → FewerWait old new
fewer_both old mid new first second = record { each = λ w a at is. first.each w a at (second.each w a at is); len = λ w. let a = first.len w in let b = second.len w in omega arith }

module _ (t : Transfer) (here : Place) where
  pub gone_securities : (new : Waits) → is_waiting new (more_given t) t.quantity here ≡ false → (w : Want) (a : ℕ) → IsWantOf t Securities w a → is_waiting new w a here ≡ false
  gone_securities new gone w a is = by_securities t w a is (λ same much. at_key new here false (more_given t) w t.quantity a same much gone)

  pub less_securities : (old new : Waits) → (is_waiting old (more_given t) t.quantity here ≡ true → how_many new (more_given t) < how_many old (more_given t)) → (w : Want) (a : ℕ) → IsWantOf t Securities w a → is_waiting old w a here ≡ true → how_many new w < how_many old w
  less_securities old new fewer w a is there = by_securities t w a is (λ same much. subst (λ z. how_many new z < how_many old z) same (fewer (at_key old here true w (more_given t) a t.quantity (sym same) (sym much) there)))

  pub gone_free : (new : Waits) → t.cash ≡ None → is_waiting new (less_given t) t.quantity here ≡ false → (w : Want) (a : ℕ) → IsWantOf t Money w a → is_waiting new w a here ≡ false
  gone_free new free gone w a is = by_money t w a is (λ same much. at_key new here false (less_given t) w t.quantity a same much gone) (λ c paid same much. let bad = sym free ∙ paid in absurd (cc))

  pub less_free : (old new : Waits) → t.cash ≡ None → (is_waiting old (less_given t) t.quantity here ≡ true → how_many new (less_given t) < how_many old (less_given t)) → (w : Want) (a : ℕ) → IsWantOf t Money w a → is_waiting old w a here ≡ true → how_many new w < how_many old w
  less_free old new free fewer w a is there = by_money t w a is (λ same much. subst (λ z. how_many new z < how_many old z) same (fewer (at_key old here true w (less_given t) a t.quantity (sym same) (sym much) there))) (λ c paid same much. let bad = sym free ∙ paid in absurd (cc))

  module _ (c : Cash) (paid : t.cash ≡ Some c) where
    pub gone_money : (mid new : Waits) → is_waiting mid (less_given t) t.quantity here ≡ false → ((w : Want) (a : ℕ) (q : Place) → is_waiting mid w a q ≡ false → is_waiting new w a q ≡ false)
        → is_waiting new (MoreCash t.receiver c.ccy) c.amount here ≡ false → (w : Want) (a : ℕ) → IsWantOf t Money w a → is_waiting new w a here ≡ false
    gone_money mid new less all more w a is = by_money t w a is
        (λ same much. at_key new here false (less_given t) w t.quantity a same much (all (less_given t) t.quantity here less))
        (λ d own same much.
        let one = one_cash t d c own paid in
        at_key new here false (MoreCash t.receiver c.ccy) w c.amount a (ap (λ z. MoreCash t.receiver z.ccy) (sym one) ∙ same) (ap (λ z. z.amount) (sym one) ∙ much) more)

    pub less_money : (old mid new : Waits) → KeepsOtherKeys (less_given t) t.quantity here old mid → ((w : Want) → how_many mid w ≤ how_many old w) → ((w : Want) → how_many new w ≤ how_many mid w)
        → (is_waiting old (less_given t) t.quantity here ≡ true → how_many mid (less_given t) < how_many old (less_given t))
        → (is_waiting mid (MoreCash t.receiver c.ccy) c.amount here ≡ true → how_many new (MoreCash t.receiver c.ccy) < how_many mid (MoreCash t.receiver c.ccy))
        → (w : Want) (a : ℕ) → IsWantOf t Money w a → is_waiting old w a here ≡ true → how_many new w < how_many old w
    less_money old mid new others most_mid most_new fewer_mid fewer_new w a is there = by_money t w a is
        (λ same much.
        let less = fewer_mid (at_key old here true w (less_given t) a t.quantity (sym same) (sym much) there) in
        let then = most_new (less_given t) in
        subst (λ z. how_many new z < how_many old z) same (omega arith))
        (λ d own same much.
        let one = one_cash t d c own paid in
        let here_old : is_waiting old (MoreCash t.receiver c.ccy) c.amount here ≡ true = at_key old here true w (MoreCash t.receiver c.ccy) a c.amount (sym same ∙ ap (λ z. MoreCash t.receiver z.ccy) one) (sym much ∙ ap (λ z. z.amount) one) there in
        let less = fewer_new (others (MoreCash t.receiver c.ccy) c.amount here refl ∙ here_old) in
        let before = most_mid (MoreCash t.receiver c.ccy) in
        subst (λ z. how_many new z < how_many old z) (ap (λ z. MoreCash t.receiver z.ccy) (sym one) ∙ same) (omega arith))

-- where none is found none waits
pub none_found : {X : Type 0} (waits : Waits) (want : Want) (found : Option X) → is_some found ≡ false → IfNone found ((amount : ℕ) (at : Place) → is_waiting waits want amount at ≡ false) → NoneWaits waits want
none_found waits want None none out = record { each = out }
none_found waits want (Some x) none out = absurd (cc)

-- By the result of the last call.
pub put_all : {E : Type 0} (r : Result (Unit {0}) E) (t : Transfer) (here : Place) (new : Waits) → OnOk r (is_waiting new (more_given t) t.quantity here ≡ true) → OnOk r (AreWaiting new t Securities here)
put_all (Ok x) t here new there = put_securities t here new there
put_all (Err e) t here new there = tt

pub put_money_all : {E : Type 0} (r : Result (Unit {0}) E) (t : Transfer) (here : Place) (c : Cash) → t.cash ≡ Some c → (mid new : Waits) → is_waiting mid (less_given t) t.quantity here ≡ true
    → ((w : Want) (a : ℕ) (q : Place) → is_waiting mid w a q ≡ true → is_waiting new w a q ≡ true) → OnOk r (is_waiting new (MoreCash t.receiver c.ccy) c.amount here ≡ true) → OnOk r (AreWaiting new t Money here)
put_money_all (Ok x) t here c paid mid new less all more = put_money t here c paid mid new less all more
put_money_all (Err e) t here c paid mid new less all more = tt
