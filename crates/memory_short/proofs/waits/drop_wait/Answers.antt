use Rattle.std.proofs.Common.{◌≡◌, Some, None, ap, sym, ◌∙◌, refl}
use Rattle.std.specs.Option.{option_copied_mut}
use Rattle.std.specs.BTreeMap.{get}
use Rattle.memory_short.specs.Wants.{want_cmp}
use Rattle.memory_short.proofs.WaitsLemmas.{none_at_all, no_more_wait, nowhere, others_as_before, waits_less}
use Rattle.memory_short.proofs.waits.drop_wait.Goals as goal

pub returns-in_default-clause-gone : goal.returns-in_default-clause-gone
returns-in_default-clause-gone c =
    let none = sym c.get_mut.ensures.value ∙ ap option_copied_mut c.in_default.is in
    none_at_all c.get_mut.follows.lender-at-none c.args.want.now (ap (λ m. get want_cmp m c.args.want.now) c.get_mut.follows.holds-at-none ∙ none) c.args.amount c.args.place

pub returns-then-is_last-clause-others : goal.returns-then-is_last-clause-others
returns-then-is_last-clause-others c =
    let was : get want_cmp c.args.waits.now c.args.want.now ≡ Some c.in-Some.places.now = sym c.get_mut.ensures.value ∙ ap option_copied_mut c.in-Some.is in
    let wrote = (c.get_mut.follows.holds c.drop_key.new.keys).3 (rw was refl) in
    let removed = c.remove.ensures.updates in
    others_as_before c.args.waits.now c.remove.new.self c.args.want.now (Some c.in-Some.places.now) None (record { was = was; is = removed.1; elsewhere = λ w apart. removed.2 w apart ∙ wrote.2 w apart }) c.args.amount c.args.place
    (λ a q apart. sym (nowhere c.drop_key.new.keys (c.if-is_last.ensures.0 refl) (a, q)) ∙ c.drop_key.ensures.others (a, q) apart)

pub returns-else-is_last-clause-all : goal.returns-else-is_last-clause-all
returns-else-is_last-clause-all c =
    let was : get want_cmp c.args.waits.now c.args.want.now ≡ Some c.in-Some.places.now = sym c.get_mut.ensures.value ∙ ap option_copied_mut c.in-Some.is in
    let wrote = (c.get_mut.follows.holds c.drop_key.new.keys).3 (rw was refl) in
    waits_less c.args.waits.now (c.get_mut.follows.lender c.drop_key.new.keys) c.args.want.now (Some c.in-Some.places.now) (Some c.drop_key.new.keys) (record { was = was; is = wrote.1; elsewhere = wrote.2 }) (λ a q. c.drop_key.ensures.all (a, q))

pub returns-else-is_last-clause-others : goal.returns-else-is_last-clause-others
returns-else-is_last-clause-others c =
    let was : get want_cmp c.args.waits.now c.args.want.now ≡ Some c.in-Some.places.now = sym c.get_mut.ensures.value ∙ ap option_copied_mut c.in-Some.is in
    let wrote = (c.get_mut.follows.holds c.drop_key.new.keys).3 (rw was refl) in
    others_as_before c.args.waits.now (c.get_mut.follows.lender c.drop_key.new.keys) c.args.want.now (Some c.in-Some.places.now) (Some c.drop_key.new.keys) (record { was = was; is = wrote.1; elsewhere = wrote.2 }) c.args.amount c.args.place (λ a q apart. c.drop_key.ensures.others (a, q) apart)

pub returns-else-is_last-clause-most : goal.returns-else-is_last-clause-most
returns-else-is_last-clause-most c =
    let was : get want_cmp c.args.waits.now c.args.want.now ≡ Some c.in-Some.places.now = sym c.get_mut.ensures.value ∙ ap option_copied_mut c.in-Some.is in
    let wrote = (c.get_mut.follows.holds c.drop_key.new.keys).3 (rw was refl) in
    no_more_wait c.args.waits.now (c.get_mut.follows.lender c.drop_key.new.keys) c.args.want.now (Some c.in-Some.places.now) (Some c.drop_key.new.keys) (record { was = was; is = wrote.1; elsewhere = wrote.2 }) c.drop_key.ensures.most
