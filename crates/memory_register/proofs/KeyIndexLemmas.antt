-- The numbers of keys, with one entry more, and with one less.
use Rattle.std.proofs.Common.{◌≡◌, ℕ, ◌+◌, Bool, true, false, List, [], ◌∷◌, ◌++◌, length, refl, subst, sym, ◌∙◌, arith}
use Rattle.std.specs.Prelude.{Result, Ok, Err, OnOk, OnErr, if◌then◌else◌, ◌&&◌, bytes_eq}
use Rattle.std.specs.Ordering.{is_eq, nat_cmp}
use Rattle.std.specs.Cmp.{tied_then}
use Rattle.std.specs.BTreeMap.{BTreeMap, get}
use Rattle.std.specs.declared.cmp.Ordering.TheVariants.{Equal}
use Rattle.std.proofs.lemmas.Map.Text.{is_eq-slice_cmp}
use Rattle.desk_rules.specs.declared.history.entry.Entry.{Entry}
use Rattle.desk_rules.specs.declared.history.entry.Sender.{Sender}
use Rattle.desk_rules.specs.declared.history.entry.Sender.TheVariants.{Operator, Participant as FromParticipant}
use Rattle.desk_rules.specs.History.{has_key, number_of_key, reference_of, sender_of}
use Rattle.desk_register.proofs.CaseLemmas.{by_bool, same_bytes}
use Rattle.memory_register.specs.declared.entries.keys.Keys.{Keys}
use Rattle.memory_register.specs.FirstNumbers.{number_if, or_number, without}
use Rattle.memory_register.specs.Keys.{AreKeysOf, command_cmp, command_key, message_cmp, message_key, sender_cmp, text_cmp}
use Rattle.memory_register.specs.TailNumber.{tail_number}
use Rattle.memory_register.proofs.FirstLemmas.{forgotten_at, key_first, noted_at, same_first}

-- Whether an entry has a key, by the order of keys.

no_and_false : (a : Bool) → (a && false) ≡ false
no_and_false true = refl
no_and_false false = refl

-- one text has one tail number
same_tail : (r q : List ℕ) → bytes_eq r q ≡ true → is_eq (nat_cmp (tail_number r) (tail_number q)) ≡ true
same_tail r q here = let one : nat_cmp (tail_number r) (tail_number r) ≡ Equal = grind arith in subst (λ z. is_eq (nat_cmp (tail_number r) (tail_number z)) ≡ true) (same_bytes r q here) (rw one refl)

-- so tail numbers tell apart no more than the texts do
with_tail : (a : Bool) (r q : List ℕ) → (is_eq (nat_cmp (tail_number r) (tail_number q)) && (a && bytes_eq r q)) ≡ (a && bytes_eq r q)
with_tail a r q = by_bool (bytes_eq r q)
    (λ here. rw (same_tail r q here) refl)
    (λ other. rw (other, no_and_false a, no_and_false (is_eq (nat_cmp (tail_number r) (tail_number q)))) refl)

command_same : (r q : List ℕ) → is_eq (command_cmp (command_key r) (command_key q)) ≡ bytes_eq r q
command_same r q = sym (tied_then (nat_cmp (tail_number r) (tail_number q)) (text_cmp r q)) ∙ rw (is_eq-slice_cmp r q) (with_tail true r q)

message_same : (bic r b q : List ℕ) → is_eq (message_cmp (message_key bic r) (message_key b q)) ≡ (bytes_eq bic b && bytes_eq r q)
message_same bic r b q =
    sym (tied_then (nat_cmp (tail_number r) (tail_number q)) (sender_cmp (bic, r) (b, q)))
    ∙ rw (sym (tied_then (text_cmp bic b) (text_cmp r q)), is_eq-slice_cmp bic b, is_eq-slice_cmp r q) (with_tail (bytes_eq bic b) r q)

is_command : (e : Entry) (key : ℕ × List ℕ) (q : List ℕ) → sender_of e ≡ Operator → key ≡ command_key (reference_of e) → has_key Operator q e ≡ is_eq (command_cmp key (command_key q))
is_command e key q from is = rw (is, command_same (reference_of e) q, from) refl

no_message_key : (e : Entry) (b q : List ℕ) → sender_of e ≡ Operator → has_key (FromParticipant b) q e ≡ false
no_message_key e b q from = rw from refl

is_message : (e : Entry) (bic : List ℕ) (key : ℕ × (List ℕ × List ℕ)) (b q : List ℕ) → sender_of e ≡ FromParticipant bic → key ≡ message_key bic (reference_of e) → has_key (FromParticipant b) q e ≡ is_eq (message_cmp key (message_key b q))
is_message e bic key b q from is = rw (is, message_same bic (reference_of e) b q, from) refl

no_command_key : (e : Entry) (bic q : List ℕ) → sender_of e ≡ FromParticipant bic → has_key Operator q e ≡ false
no_command_key e bic q from = rw from refl

-- With one entry more, and with one less, by the trees that change.

module _ (old : Keys) (history : List Entry) (e : Entry) (n : ℕ) (is : n ≡ length history + 1) where
  kept_number : (s : Sender) (r : List ℕ) → has_key s r e ≡ false → number_of_key history s r ≡ number_of_key (history ++ e ∷ []) s r
  kept_number s r other = key_first s r history ∙ sym (same_first (has_key s r) history e n is other) ∙ sym (key_first s r (history ++ e ∷ []))

  module _ (key : ℕ × List ℕ) (commands : BTreeMap (ℕ × List ℕ) ℕ) (from : sender_of e ≡ Operator) (key_is : key ≡ command_key (reference_of e)) where
    pub noted_command : AreKeysOf old history → ((q : ℕ × List ℕ) → get command_cmp commands q ≡ or_number (get command_cmp old.commands q) (number_if (is_eq (command_cmp key q)) n))
        → AreKeysOf (record { commands = commands; messages = old.messages }) (history ++ e ∷ [])
    noted_command keys put = record {
      commands = λ q.
          noted_at command_cmp (has_key Operator q) old.commands commands history e n is key (command_key q) (is_command e key q from key_is) (put (command_key q)) (keys.commands q ∙ key_first Operator q history)
          ∙ sym (key_first Operator q (history ++ e ∷ []));
      messages = λ b q. keys.messages b q ∙ kept_number (FromParticipant b) q (no_message_key e b q from);
    }

    pub forgot_command : AreKeysOf old (history ++ e ∷ [])
        → ((q : ℕ × List ℕ) → get command_cmp commands q ≡ (if is_eq (command_cmp key q) then without n (get command_cmp old.commands q) else get command_cmp old.commands q))
        → AreKeysOf (record { commands = commands; messages = old.messages }) history
    forgot_command keys took = record {
      commands = λ q.
          forgotten_at command_cmp (has_key Operator q) old.commands commands history e n is key (command_key q) (is_command e key q from key_is) (took (command_key q))
          (keys.commands q ∙ key_first Operator q (history ++ e ∷ []))
          ∙ sym (key_first Operator q history);
      messages = λ b q. keys.messages b q ∙ sym (kept_number (FromParticipant b) q (no_message_key e b q from));
    }

  module _ (bic : List ℕ) (key : ℕ × (List ℕ × List ℕ)) (messages : BTreeMap (ℕ × (List ℕ × List ℕ)) ℕ) (from : sender_of e ≡ FromParticipant bic) (key_is : key ≡ message_key bic (reference_of e)) where
    pub noted_message : AreKeysOf old history
        → ((q : ℕ × (List ℕ × List ℕ)) → get message_cmp messages q ≡ or_number (get message_cmp old.messages q) (number_if (is_eq (message_cmp key q)) n))
        → AreKeysOf (record { commands = old.commands; messages = messages }) (history ++ e ∷ [])
    noted_message keys put = record {
      commands = λ q. keys.commands q ∙ kept_number Operator q (no_command_key e bic q from);
      messages = λ b q.
          noted_at message_cmp (has_key (FromParticipant b) q) old.messages messages history e n is key (message_key b q) (is_message e bic key b q from key_is) (put (message_key b q))
          (keys.messages b q ∙ key_first (FromParticipant b) q history)
          ∙ sym (key_first (FromParticipant b) q (history ++ e ∷ []));
    }

    pub forgot_message : AreKeysOf old (history ++ e ∷ [])
        → ((q : ℕ × (List ℕ × List ℕ)) → get message_cmp messages q ≡ (if is_eq (message_cmp key q) then without n (get message_cmp old.messages q) else get message_cmp old.messages q))
        → AreKeysOf (record { commands = old.commands; messages = messages }) history
    forgot_message keys took = record {
      commands = λ q. keys.commands q ∙ sym (kept_number Operator q (no_command_key e bic q from));
      messages = λ b q.
          forgotten_at message_cmp (has_key (FromParticipant b) q) old.messages messages history e n is key (message_key b q) (is_message e bic key b q from key_is) (took (message_key b q))
          (keys.messages b q ∙ key_first (FromParticipant b) q (history ++ e ∷ []))
          ∙ sym (key_first (FromParticipant b) q history);
    }

-- a call's end, carried over
pub on_ok : {X E : Type 0} {P Q : Type 0} (r : Result X E) → (P → Q) → OnOk r P → OnOk r Q
on_ok (Ok x) step p = step p
on_ok (Err e) step p = p

pub on_err : {X E : Type 0} {P Q : Type 0} (r : Result X E) → (P → Q) → OnErr r P → OnErr r Q
on_err (Ok x) step p = p
on_err (Err e) step p = step p

pub even_err : {X E : Type 0} {P : Type 0} (r : Result X E) → P → OnErr r P
even_err (Ok x) p = tt
even_err (Err e) p = p
