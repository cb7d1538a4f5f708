use Rattle.desk_rules.proofs.Decided.{In-from_Contains}
use Rattle.desk_rules.proofs.NonNegative.{never_negative}
use Rattle.desk_rules.proofs.laws.never_negative.Goals as goal

pub returns : goal.returns
returns c = record {
  last = λ limit history pairs settled was pairing settlement. let never = never_negative limit history pairs settled was pairing settlement in never.now;
  each = λ limit history pairs settled s was pairing settlement inside. let never = never_negative limit history pairs settled was pairing settlement in never.each s (In-from_Contains settled s inside);
}
