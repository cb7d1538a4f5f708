-- The names of what differs, as values of JSON.
use Rattle.std.proofs.Common.{◌≡◌, ℕ, Bool, true, List, [], ◌∷◌, ◌++◌, map, refl, sym, ap, ◌∙◌, append_assoc}
use Rattle.std.proofs.lemmas.List.{map-append}
use Rattle.serde_json.specs.Data.{Data, Items, no_items, item, string}
use Rattle.serde_json.specs.View.{items_of, items_view, view}
use Rattle.serde_json.specs.declared.value.Value.{Value}
use Rattle.desk_report.specs.RowData.{name_if}

-- values behind others
behind : Items → List Data → Items
behind no_items more = items_of more
behind (item first rest) more = item first (behind rest more)

joined : (first more : List Data) → items_of (first ++ more) ≡ behind (items_of first) more
unfolding behind
joined [] more = refl
joined (d ∷ first) more = ap (item d) (joined first more)

-- one more name
pub added : (names : List Value) (value : Value) (more : List Value) (told : List (List ℕ)) (name : List ℕ) (applies : Bool) → applies ≡ true → more ≡ names ++ value ∷ [] → view value ≡ string name
    → items_view names ≡ items_of (map string told) → items_view more ≡ items_of (map string (told ++ name_if applies name))
unfolding behind
added names value more told name applies does grown is same =
    let last : List Data = string name ∷ [] in
    let one : map view (names ++ value ∷ []) ≡ map view names ++ last = map-append view names (value ∷ []) ∙ ap (λ d. map view names ++ d ∷ []) is in
    let left : items_view more ≡ behind (items_of (map string told)) last = ap items_view grown ∙ ap items_of one ∙ joined (map view names) last ∙ ap (λ i. behind i last) same in
    let right : items_of (map string (told ++ name ∷ [])) ≡ behind (items_of (map string told)) last = ap items_of (map-append string told (name ∷ [])) ∙ joined (map string told) last in
    left ∙ sym right ∙ ap (λ b. items_of (map string (told ++ name_if b name))) (sym does)

-- name by name, or all together
pub all_names : (a b c d e f : List (List ℕ)) → ((((([] ++ a) ++ b) ++ c) ++ d) ++ e) ++ f ≡ a ++ (b ++ (c ++ (d ++ (e ++ f))))
all_names a b c d e f =
    append_assoc (((a ++ b) ++ c) ++ d) e f ∙ append_assoc ((a ++ b) ++ c) d (e ++ f) ∙ append_assoc (a ++ b) c (d ++ (e ++ f)) ∙ append_assoc a b (c ++ (d ++ (e ++ f)))
