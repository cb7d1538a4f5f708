use Rattle.std.proofs.Common.{◌++◌, ◌∙◌, ap, codes}
use Rattle.desk_msg.proofs.StatusLemmas.{new_refused, cancel_refused}
use Rattle.desk_msg.proofs.writing.status.status_lines.Goals as goal

pub returns-in-NewRefused : goal.returns-in-NewRefused
returns-in-NewRefused c =
    rw c.in-NewRefused.is
    (ap (λ w. w ++ (c.args.narrative.now ++ codes "\r\n:16S:REAS\r\n:16S:STAT\r\n")) c.refused_front.ensures
    ∙ new_refused c.args.narrative.now c.in-NewRefused.field-0 (rw c.in-NewRefused.is at c.requires))

pub returns-in-CancelRefused : goal.returns-in-CancelRefused
returns-in-CancelRefused c =
    rw c.in-CancelRefused.is
    (ap (λ w. w ++ (c.args.narrative.now ++ codes "\r\n:16S:REAS\r\n:16S:STAT\r\n")) c.refused_front-in-CancelRefused.ensures
    ∙ cancel_refused c.args.narrative.now c.in-CancelRefused.field-0 (rw c.in-CancelRefused.is at c.requires))
