use Rattle.std.proofs.Common.{◌≡◌, ◌++◌, List, length, vec_len}
use Rattle.memory_register.specs.declared.sent.heading.Heading.{Heading}
use Rattle.memory_register.specs.Messages.{AreMessagesOf}
use Rattle.memory_register.proofs.tidying.forget_messages.Given as goal

abbrev pub invariant-loop-heading : goal.invariant-loop-heading
invariant-loop-heading l = (headings : List Heading) → AreMessagesOf l.fn.messages (headings ++ l.fn.told.items) → l.count ≡ length headings → AreMessagesOf l.messages (headings ++ l.told.items)

abbrev pub decreases-loop-heading : goal.decreases-loop-heading
decreases-loop-heading l = vec_len l.told
