use Rattle.std.proofs.Common.{rules, ◌≡◌, List, ℕ, [], ◌++◌, ◌∙◌, ap, codes, map}
use Rattle.serde_json.specs.Data.{array, string}
use Rattle.serde_json.specs.View.{items_of, items_view, view}
use Rattle.serde_json.specs.declared.value.Value.{Array, the_lemmas}
use Rattle.desk_report.specs.RowData.{name_if}
use Rattle.desk_report.proofs.NameLemmas.{all_names}
use Rattle.desk_report.proofs.rows.values.names_value.Goals as goal

pub returns : goal.returns
returns c =
    let d = c.args.differs.now in
    let kind = name_if d.kind (codes "kind") in
    let quantity = name_if d.quantity (codes "quantity") in
    let day = name_if d.day (codes "day") in
    let payment = name_if d.payment (codes "payment") in
    let currency = name_if d.currency (codes "currency") in
    let amount = name_if d.amount (codes "amount") in
    let one = c.in_ok-add_name.ensures [] (ap items_view c.new-names.ensures.items) in
    let two = c.in_ok-add_name-2.ensures ([] ++ kind) one in
    let three = c.in_ok-add_name-3.ensures (([] ++ kind) ++ quantity) two in
    let four = c.in_ok-add_name-4.ensures ((([] ++ kind) ++ quantity) ++ day) three in
    let five = c.in_ok-add_name-5.ensures (((([] ++ kind) ++ quantity) ++ day) ++ payment) four in
    let six = c.in_ok-add_name-6.ensures ((((([] ++ kind) ++ quantity) ++ day) ++ payment) ++ currency) five in
    let shown : view (Array c.add_name-6.new.names) ≡ array (items_view c.add_name-6.new.names.items) = search (rules, the_lemmas) in
    shown ∙ ap array (six ∙ ap (λ (names : List (List ℕ)). items_of (map string names)) (all_names kind quantity day payment currency amount))
