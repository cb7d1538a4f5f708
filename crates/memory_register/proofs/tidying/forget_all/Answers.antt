use Rattle.std.proofs.Common.{List, ◌≡◌, ◌<◌, ◌+◌, ◌++◌, ◌∷◌, [], length, ap, sym, ◌∙◌, subst, arith, append_assoc, rules}
use Rattle.std.proofs.lemmas.List.{length-append}
use Rattle.desk_rules.specs.declared.history.entry.Entry.{Entry}
use Rattle.memory_short.specs.DuePlaces.{ArePlaced}
use Rattle.memory_register.specs.Known.{AreKnown}
use Rattle.memory_register.proofs.tidying.forget_all.Goals as goal

pub loop-entry-preserved : goal.loop-entry-preserved
loop-entry-preserved c =
    let left = c.pop.new.self.items in
    let whole : (history : List Entry) → history ++ c.loop-entry.noted.items ≡ (history ++ left) ++ c.in-Some.entry ∷ [] = λ history. ap (λ z. history ++ z) c.in-Some.ensures.items ∙ sym (append_assoc history left (c.in-Some.entry ∷ [])) in
    record {
      known = λ history are is.
          let parts = length-append history left in
          let count : c.len.result ≡ length left = search rules in
          let number : c.args.count + c.len.result + 1 ≡ length (history ++ left) + 1 = omega arith in
          c.forget.ensures (history ++ left) (subst (AreKnown c.loop-entry.known) (whole history) (c.loop-entry.invariant.known history are is)) number;
      due = λ mark is has. let more : c.args.count < c.args.count + c.len.result + 1 = omega arith in c.forget_place.ensures.due mark (omega arith) (c.loop-entry.invariant.due mark is has);
      placed = λ history is are.
          let parts = length-append history left in
          let count : c.len.result ≡ length left = search rules in
          let number : c.args.count + c.len.result + 1 ≡ length (history ++ left) + 1 = omega arith in
          c.forget_place.ensures.placed (history ++ left) number (subst (ArePlaced c.loop-entry.places) (whole history) (c.loop-entry.invariant.placed history is are));
      fewer = λ q there. c.loop-entry.invariant.fewer q (c.forget_place.ensures.fewer q there);
    }
