use Rattle.std.proofs.Common.{◌≡◌, Some, None, ap, sym, ◌∙◌, refl}
use Rattle.std.specs.Option.{option_copied_mut}
use Rattle.std.specs.BTreeMap.{get}
use Rattle.memory_short.specs.Wants.{want_cmp}
use Rattle.memory_short.proofs.WaitsLemmas.{nowhere, others_as_before, waits_more}
use Rattle.memory_short.proofs.waits.put_wait.Goals as goal

pub returns-in-Some-clause-all : goal.returns-in-Some-clause-all
returns-in-Some-clause-all c =
    let was : get want_cmp c.args.waits.now c.args.want.now ≡ Some c.in-Some.places.now = sym c.get_mut.ensures.value ∙ ap option_copied_mut c.in-Some.is in
    let wrote = (c.get_mut.follows.holds c.put_key.new.keys).3 (rw was refl) in
    waits_more c.args.waits.now (c.get_mut.follows.lender c.put_key.new.keys) c.args.want.now (Some c.in-Some.places.now) (Some c.put_key.new.keys) (record { was = was; is = wrote.1; elsewhere = wrote.2 }) (λ a q. c.put_key.ensures.all (a, q))

pub returns-in-Some-clause-others : goal.returns-in-Some-clause-others
returns-in-Some-clause-others c =
    let was : get want_cmp c.args.waits.now c.args.want.now ≡ Some c.in-Some.places.now = sym c.get_mut.ensures.value ∙ ap option_copied_mut c.in-Some.is in
    let wrote = (c.get_mut.follows.holds c.put_key.new.keys).3 (rw was refl) in
    others_as_before c.args.waits.now (c.get_mut.follows.lender c.put_key.new.keys) c.args.want.now (Some c.in-Some.places.now) (Some c.put_key.new.keys) (record { was = was; is = wrote.1; elsewhere = wrote.2 }) c.args.amount c.args.place
    (λ a q apart. c.put_key.ensures.others (a, q) apart)

pub returns-clause-all : goal.returns-clause-all
returns-clause-all c =
    let was : get want_cmp c.args.waits.now c.args.want.now ≡ None = sym c.get_mut.ensures.value ∙ ap option_copied_mut c.in_default.is in
    let wrote = c.in_ok-insert.ensures.updates in
    waits_more c.args.waits.now c.insert.new.self c.args.want.now None (Some c.put_key-2.new.keys) (record { was = was; is = wrote.1; elsewhere = λ w apart. wrote.2 w apart ∙ ap (λ m. get want_cmp m w) c.get_mut.follows.holds-at-none })
    (λ a q there. absurd (cc))

pub returns-clause-others : goal.returns-clause-others
returns-clause-others c =
    let was : get want_cmp c.args.waits.now c.args.want.now ≡ None = sym c.get_mut.ensures.value ∙ ap option_copied_mut c.in_default.is in
    let wrote = c.in_ok-insert.ensures.updates in
    others_as_before c.args.waits.now c.insert.new.self c.args.want.now None (Some c.put_key-2.new.keys) (record { was = was; is = wrote.1; elsewhere = λ w apart. wrote.2 w apart ∙ ap (λ m. get want_cmp m w) c.get_mut.follows.holds-at-none }) c.args.amount c.args.place
    (λ a q apart. c.put_key-2.ensures.others (a, q) apart ∙ nowhere c.new-places.result c.new-places.ensures.len (a, q))
