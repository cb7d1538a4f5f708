use Rattle.std.proofs.Common.{◌≡◌, ◌∙◌, Some, ap, refl, sym, rules}
use Rattle.desk_rules.specs.Content.{history_of}
use Rattle.desk_rules.specs.History.{instruction_at}
use Rattle.memory_rows.specs.RowsView.{view_of_rows}
use Rattle.memory_rows.specs.Transfers.{moved_by}
use Rattle.memory_short.proofs.WakeLemmas.{this_want, wakes_place}
use Rattle.memory_short.proofs.shortages.Shortages.wake_place.Goals as goal

pub unwrap-requires : goal.unwrap-requires
unwrap-requires c =
    let w = (c.requires.knows.each c.args.place).waits c.args.want.now c.args.amount c.requires.waits in
    let is : c.standing_at-standing.result.mate ≡ Some w.short.mate = ap (λ z. z.mate) c.standing_at-standing.ensures ∙ w.short.pair.has_mate in
    search rules

pub pair_of-pair-requires : goal.pair_of-pair-requires
pair_of-pair-requires c =
    let w = (c.requires.knows.each c.args.place).waits c.args.want.now c.args.amount c.requires.waits in
    let mates : Some c.unwrap.result ≡ Some w.short.mate = sym c.unwrap.ensures ∙ ap (λ z. z.mate) c.standing_at-standing.ensures ∙ w.short.pair.has_mate in
    let one : c.unwrap.result ≡ w.short.mate = cc in
    (w.short.earlier, w.short.later, ap (instruction_at (history_of (view_of_rows c.args.held.now).content)) one ∙ w.short.pair.is_earlier, w.short.pair.is_later)

pub returns-clause-knows : goal.returns-clause-knows
returns-clause-knows c =
    wakes_place c.args.self.now _ (view_of_rows c.args.held.now).content c.args.place c.args.want.now c.args.amount (moved_by c.pair_of-pair.result) c.unwrap.result c.lack_told.result c.requires.knows c.requires.waits
    (record { has_mate = sym (ap (λ z. z.mate) c.standing_at-standing.ensures) ∙ c.unwrap.ensures; moves = λ first second at_m at_n. ap moved_by (c.pair_of-pair.ensures first second at_m at_n) })
    (λ lack is. c.lack_told.ensures lack (ap (λ z. z.state) c.standing_at-standing.ensures ∙ is)) (λ is. is) refl c.in_ok-begin_count.ensures.there c.begin_count.ensures.others
    c.drop_wants.ensures.others c.drop_wants.ensures.fewer c.drop_wants.ensures.gone

pub returns-clause-fewer : goal.returns-clause-fewer
returns-clause-fewer c =
    c.drop_wants.ensures.less c.args.want.now c.args.amount
    (this_want c.args.self.now c.args.self.now (view_of_rows c.args.held.now).content c.args.place c.args.want.now c.args.amount (moved_by c.pair_of-pair.result) c.unwrap.result c.lack_told.result c.requires.knows c.requires.waits
    (record { has_mate = sym (ap (λ z. z.mate) c.standing_at-standing.ensures) ∙ c.unwrap.ensures; moves = λ first second at_m at_n. ap moved_by (c.pair_of-pair.ensures first second at_m at_n) })
    (λ lack is. c.lack_told.ensures lack (ap (λ z. z.state) c.standing_at-standing.ensures ∙ is)))
    c.requires.waits
