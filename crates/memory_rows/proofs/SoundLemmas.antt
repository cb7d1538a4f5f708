-- The lists are sound after each call.
use Rattle.std.proofs.Common.{◌≡◌, ℕ, List, arith, refl, ap, sym, subst}
use Rattle.std.specs.Prelude.{[], ◌∷◌, ◌++◌, Result, Ok, Err, IfOk, OnOk}
use Rattle.desk_codes.specs.declared.currency.Ccy.{Ccy}
use Rattle.desk_rules.specs.declared.history.entry.Entry.{Entry}
use Rattle.desk_rules.specs.declared.answers.reply.Reply.{Reply}
use Rattle.desk_rules.specs.declared.answers.reply.Sent.{Sent}
use Rattle.desk_register.specs.declared.outcome.Outcome.{Outcome}
use Rattle.desk_register.specs.Changes.{CanAppend, TriesPair, appended}
use Rattle.desk_register.specs.Looked.{held_cash_of, held_of}
use Rattle.memory_rows.specs.declared.balance_key.BalanceKey.TheVariants.{Outstanding, Paid}
use Rattle.memory_rows.specs.Balanced.{IsBalanced, IsSound}
use Rattle.memory_rows.specs.Lists.{Listed, TotalsAreKept, balance_in, content_in, standing_in}
use Rattle.memory_rows.specs.Moves.{SameBooks, SameEntries, SameTotals}
use Rattle.memory_rows.proofs.AppendLemmas.{stood_content}
use Rattle.memory_rows.proofs.BalancedLemmas.{balanced_append, balanced_send, balanced_stand, balanced_tried}
use Rattle.memory_rows.proofs.KeepLemmas.{kept_content}
use Rattle.memory_rows.proofs.SettleLemmas.{sent_totals, stood_totals, totals_of_same}

pub sound_appended : {T E : Type 0} (r : Result T E) (old new : Listed) (room : ℕ) (entry : Entry) (reply : Reply) → IsSound old → CanAppend room entry reply (content_in old)
    → OnOk r (content_in new ≡ appended entry reply (content_in old)) → OnOk r (TotalsAreKept new) → OnOk r (IsSound new)
sound_appended (Err f) old new room entry reply sound can added totals = added
sound_appended (Ok x) old new room entry reply sound can added totals = record {
  totals = totals;
  balanced = subst IsBalanced (sym added) (balanced_append (content_in old) sound.balanced room entry reply can);
}

pub sound_tried : {E : Type 0} (r : Result Outcome E) (old new : Listed) (n : ℕ) → IsSound old → IfOk r (λ outcome. TriesPair (content_in old) n outcome (content_in new))
    → OnOk r (SameTotals old new) → OnOk r (IsSound new)
sound_tried (Err f) old new n sound tries same = same
sound_tried (Ok outcome) old new n sound tries same = record {
  totals = totals_of_same old new same sound.totals;
  balanced = balanced_tried (content_in old) sound.balanced n outcome (content_in new) tries;
}

pub sound_stood : (old new : Listed) → IsSound old → SameBooks old new → IsSound new
sound_stood old new sound books = record {
  totals = totals_of_same old new (stood_totals old new books) sound.totals;
  balanced = subst IsBalanced (sym (stood_content old new (standing_in new.standings) books refl)) (balanced_stand (content_in old) sound.balanced (standing_in new.standings));
}

pub sound_sent : (old new : Listed) (message : Sent) → IsSound old → new ≡ record old { sent = old.sent ++ message ∷ [] } → IsSound new
sound_sent old new message sound is = record {
  totals = totals_of_same old new (sent_totals old new _ is) sound.totals;
  balanced = subst IsBalanced (sym (ap content_in is)) (balanced_send (content_in old) sound.balanced message);
}

-- no more than balances of 0 are taken out
pub sound_kept : (old new : Listed) → SameEntries old new → balance_in new ≡ balance_in old → IsSound old → IsSound new
sound_kept old new same amounts sound = record {
  totals = totals_of_same old new (record { kept = same.kept; outstanding = λ i. ap (λ b. b (Outstanding i)) amounts; paid = λ c. ap (λ b. b (Paid c)) amounts }) sound.totals;
  balanced = subst IsBalanced (sym (kept_content old new same amounts)) sound.balanced;
}

-- what is outstanding all accounts hold, and what is paid all participants have

pub total_held : (l : Listed) → IsSound l → (isin : List ℕ) → balance_in l (Outstanding isin) ≡ held_of (content_in l) isin
total_held l sound isin = let kept = sound.totals.securities isin in let held = sound.balanced.sums.securities isin in omega arith

pub total_had : (l : Listed) → IsSound l → (ccy : Ccy) → balance_in l (Paid ccy) ≡ held_cash_of (content_in l) ccy
total_had l sound ccy = let kept = sound.totals.currencies ccy in let held = sound.balanced.sums.currencies ccy in omega arith
