-- A text between its quotes.
use Rattle.std.proofs.Common.{[], ◌∷◌, ◌-◌, length, take, drop, sym, subst}
use Rattle.json.specs.Lex.{token}
use Rattle.json.specs.Token.{string}
use Rattle.desk_book.specs.Flat.{Passes}
use Rattle.desk_book.proofs.FormLemmas.{stripped}
use Rattle.desk_book.proofs.FlatLemmas.{quoted_to}
use Rattle.desk_book.proofs.requests.scanning.quoted.Goals as goal

pub returns : goal.returns
returns c =
    let rest = c.in_ok-rest.rest.now in
    let behind = c.in_ok-behind.behind.now in
    let n = c.plain_length-length.result in
    let opened = stripped (34 ∷ []) c.args.text.now rest c.in_ok-rest.ensures.cases.0 c.in_ok-rest.ensures.cases.1 in
    let closed = stripped (34 ∷ []) (take (length rest - n) (drop n rest)) behind c.in_ok-behind.ensures.cases.0 c.in_ok-behind.ensures.cases.1 in
    subst (λ l. Passes (token (string (take n rest)) ∷ []) l behind) (sym opened) (quoted_to rest behind n c.plain_length-length.ensures.plain c.plain_length-length.ensures.within closed)
