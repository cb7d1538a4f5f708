use Rattle.std.proofs.Common.{◌≡◌, true, false, sym, ◌∙◌}
use Rattle.desk_msg.proofs.FormLemmas.{function_excludes}
use Rattle.desk_msg.proofs.reading.value.function_of.Goals as goal

pub returns-then-not-is_code : goal.returns-then-not-is_code
returns-then-not-is_code c =
    function_excludes c.args.text.now c.in_ok-subfunction.subfunction.now (sym c.split_at.ensures.back ∙ c.in_ok-subfunction.ensures)
    (λ code. let wrong : false ≡ true = c.if-not-is_code.ensures.1 code in cc)
