use Rattle.std.proofs.Common.{◌≡◌, ◌∙◌, ap, subst, List, codes, ◌++◌, IfOk}
use Rattle.desk_text.specs.Fields.{IsBlock}
use Rattle.desk_text.specs.Written.{Part, block_text, fields_written}
use Rattle.desk_msg.specs.StatusText.{advice}
use Rattle.desk_msg.proofs.PrintableLemmas.{printable_text}
use Rattle.desk_msg.proofs.AdviceLemmas.{own_first, advice_values}
use Rattle.desk_msg.proofs.writing.status.status_text.Goals as goal

pub write_advice-requires-clause-own : goal.write_advice-requires-clause-own
write_advice-requires-clause-own c = rw c.own_value-sender.ensures (own_first c.args.own)

pub write_advice-requires-clause-reference : goal.write_advice-requires-clause-reference
write_advice-requires-clause-reference c = rw c.as_bytes-2.ensures.bytes (printable_text c.args.reference.now c.as_bytes-2.ensures.reference.printable)

pub returns-clause-text : goal.returns-clause-text
unfolding advice
returns-clause-text c =
    let parts = advice_values c.args.own c.args.mt c.args.reference.now c.args.about c.own_value-sender.result (codes ":LINK//" ++ c.as_bytes.result.now) (codes ":RELA//" ++ c.as_bytes-2.result.now)
    c.own_value-sender.ensures
    (ap (λ text. codes ":LINK//" ++ text) (c.as_bytes.ensures.value ∙ c.as_str.ensures))
    (ap (λ text. codes ":RELA//" ++ text) c.as_bytes-2.ensures.bytes) in
    let P : List Part → Type 0 = λ ps. IfOk c.write_advice.result (λ text. text.items ≡ block_text ps) in
    subst P parts c.write_advice.ensures.text

pub returns-clause-block : goal.returns-clause-block
returns-clause-block c =
    let parts = advice_values c.args.own c.args.mt c.args.reference.now c.args.about c.own_value-sender.result (codes ":LINK//" ++ c.as_bytes.result.now) (codes ":RELA//" ++ c.as_bytes-2.result.now)
    c.own_value-sender.ensures
    (ap (λ text. codes ":LINK//" ++ text) (c.as_bytes.ensures.value ∙ c.as_str.ensures))
    (ap (λ text. codes ":RELA//" ++ text) c.as_bytes-2.ensures.bytes) in
    let P : List Part → Type 0 = λ ps. IfOk c.write_advice.result (λ text. IsBlock text.items (fields_written ps)) in
    subst P parts c.write_advice.ensures.block
