use Rattle.std.proofs.Common.{◌≡◌, ap, ◌∙◌, Ok, unwrap_or}
use Rattle.sql_rows.proofs.sent.messages.last_in.Goals as goal

pub returns : goal.returns
returns c last is =
    let e = c.in_ok-number.ensures is.found is.shown in
    let same : c.in_ok-number.number ≡ is.found = cc in
    ap Ok (c.unwrap_or.ensures ∙ ap (λ n. unwrap_or n 0) same ∙ is.is)

pub returns-in_err-number : goal.returns-in_err-number
returns-in_err-number c last is = absurd (let e = c.in_err-number.ensures is.found is.shown in cc)
