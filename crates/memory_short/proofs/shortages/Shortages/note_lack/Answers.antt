use Rattle.std.proofs.Common.{refl, sym}
use Rattle.desk_register.specs.declared.outcome.Outcome.TheVariants.{Lacks}
use Rattle.memory_rows.specs.Transfers.{moved_by, transfer_of}
use Rattle.memory_short.proofs.WakeLemmas.{lacks_and_waits, lacks_otherwise, lacks_still, noted_at, noted_of, on_ok}
use Rattle.memory_short.proofs.shortages.Shortages.note_lack.Goals as goal

pub numbered_place-place-requires : goal.numbered_place-place-requires
numbered_place-place-requires c = (c.requires.pair.1, c.requires.pair.3)

pub returns-in-None-clause-noted : goal.returns-in-None-clause-noted
returns-in-None-clause-noted c = on_ok c.begin_count.result
    (λ there earlier later first second.
    noted_of c.args.self.now _ (Lacks c.args.lack) c.pair_of.result c.numbered_place-place.result c.args.mate c.args.number earlier later (c.pair_of.ensures earlier later first second) (c.numbered_place-place.ensures later second)
    (lacks_otherwise c.args.self.now _ c.take_out.new.self _ (moved_by c.pair_of.result) c.args.lack c.numbered_place-place.result (λ is. c.requires.known) c.count_down.ensures.same refl refl c.take_out.ensures.out refl refl there c.begin_count.ensures.others))
    c.begin_count.ensures.there

pub returns-in-Some-clause-noted : goal.returns-in-Some-clause-noted
returns-in-Some-clause-noted c = λ earlier later first second.
    noted_at c.args.self.now _ (transfer_of earlier later) c.args.lack c.numbered_place-place.result _ (c.numbered_place-place.ensures later second)
    (lacks_still c.args.self.now _ (transfer_of earlier later) c.args.lack c.numbered_place-place.result (λ is. is) c.count_down.ensures.same refl refl (sym c.in-Some.ensures.was))

pub returns-in-Some-2-clause-noted : goal.returns-in-Some-2-clause-noted
returns-in-Some-2-clause-noted c = on_ok c.put_wants.result
    (λ waiting earlier later first second.
    noted_of c.args.self.now _ (Lacks c.args.lack) c.pair_of-pair.result c.numbered_place-place.result c.args.mate c.args.number earlier later (c.pair_of-pair.ensures earlier later first second) (c.numbered_place-place.ensures later second)
    (lacks_and_waits c.args.self.now _ c.count_down.new.counts (moved_by c.pair_of-pair.result) c.args.lack c.numbered_place-place.result (λ is. is) c.count_down.ensures.same refl (sym c.in-Some-2.ensures.was) c.end_count.ensures.gone c.end_count.ensures.others
    c.put_wants.ensures.others waiting c.put_wants.ensures.only))
    c.put_wants.ensures.waiting
