use Rattle.std.proofs.Common.{◌≡◌, Some, rules, subst}
use Rattle.std.specs.Prelude.{Ok}
use Rattle.std.specs.declared.alloc.AllocError.{AllocError}
use Rattle.desk_register.specs.declared.outcome.Outcome.TheVariants.{Lacks, Settled}
use Rattle.desk_register.specs.Changes.{standing_both}
use Rattle.desk_rules.specs.declared.history.standing.State.TheVariants.{Matched}
use Rattle.memory_rows.specs.Lists.{content_in, listed}
use Rattle.memory_rows.proofs.AppendLemmas.{stood_content}
use Rattle.memory_rows.proofs.LookingLemmas.{instruction_within}
use Rattle.memory_rows.proofs.SettleLemmas.{found_pair, known_pair, lacks_pair, pair_covered, pair_fits, pair_known, pair_two, stood_totals, tries_pair, two_numbers}
use Rattle.memory_rows.proofs.SoundLemmas.{sound_tried}
use Rattle.memory_rows.proofs.changing.settling.try_settle.Goals as goal

pub lack_of-requires : goal.lack_of-requires
lack_of-requires c =
    let content = content_in (listed c.args.lists.now) in
    let mate : (content.standing c.args.number).mate ≡ Some c.unwrap-mate.result = search rules in
    known_pair content c.args.number c.requires.fits.0 c.unwrap-mate.result c.requires.fits.1 mate

pub wait-requires-clause-some : goal.wait-requires-clause-some
wait-requires-clause-some c =
    let content = content_in (listed c.args.lists.now) in
    let mate : (content.standing c.args.number).mate ≡ Some c.unwrap-mate.result = search rules in
    (instruction_within c.args.lists.now.kept.items c.unwrap-mate.result c.requires.fits.1.earlier (found_pair content c.args.number c.requires.fits.0 c.unwrap-mate.result c.requires.fits.1 mate).is_earlier).0

pub wait-requires-clause-two : goal.wait-requires-clause-two
wait-requires-clause-two c =
    let content = content_in (listed c.args.lists.now) in
    let mate : (content.standing c.args.number).mate ≡ Some c.unwrap-mate.result = search rules in
    two_numbers content c.args.number c.requires.fits.0 c.unwrap-mate.result c.requires.fits.1 mate

pub wait-requires-clause-known : goal.wait-requires-clause-known
wait-requires-clause-known c =
    let content = content_in (listed c.args.lists.now) in
    let mate : (content.standing c.args.number).mate ≡ Some c.unwrap-mate.result = search rules in
    (instruction_within c.args.lists.now.kept.items c.args.number c.requires.fits.1.later (found_pair content c.args.number c.requires.fits.0 c.unwrap-mate.result c.requires.fits.1 mate).is_later).1

pub returns-in-Some-clause-settled : goal.returns-in-Some-clause-settled
returns-in-Some-clause-settled c =
    let content = content_in (listed c.args.lists.now) in
    let mate : (content.standing c.args.number).mate ≡ Some c.unwrap-mate.result = search rules in
    let can = c.requires.fits.1 in
    let pair = found_pair content c.args.number c.requires.fits.0 c.unwrap-mate.result c.requires.fits.1 mate in
    let stood = stood_content (listed c.args.lists.now) (listed c.wait.new.lists) _ c.in_ok-wait.ensures.rest c.in_ok-wait.ensures.stands in
    lacks_pair content c.args.number c.requires.fits.0 c.unwrap-mate.result c.requires.fits.1 mate c.in-Some.lack (content_in (listed c.wait.new.lists)) (c.in-Some.ensures can.earlier can.later pair.is_earlier pair.is_later)
    (subst (λ r. content_in (listed c.wait.new.lists) ≡ record content { standing = standing_both content.standing c.unwrap-mate.result c.args.number (Matched r) }) c.reason_of.ensures stood)

pub returns-in-Some-clause-sound : goal.returns-in-Some-clause-sound
returns-in-Some-clause-sound c = sound_tried {E = AllocError} (Ok (Lacks c.in-Some.lack)) (listed c.args.lists.now) (listed c.wait.new.lists) c.args.number c.requires.sound (returns-in-Some-clause-settled c) (stood_totals (listed c.args.lists.now) (listed c.wait.new.lists) c.in_ok-wait.ensures.rest)

pub pair_of-pair-requires : goal.pair_of-pair-requires
pair_of-pair-requires c =
    let content = content_in (listed c.args.lists.now) in
    let mate : (content.standing c.args.number).mate ≡ Some c.unwrap-mate.result = search rules in
    known_pair content c.args.number c.requires.fits.0 c.unwrap-mate.result c.requires.fits.1 mate

pub settle_known-requires-clause-some : goal.settle_known-requires-clause-some
settle_known-requires-clause-some c =
    let content = content_in (listed c.args.lists.now) in
    let mate : (content.standing c.args.number).mate ≡ Some c.unwrap-mate.result = search rules in
    let pair = c.pair_of-pair.result in
    (instruction_within c.args.lists.now.kept.items pair.mate pair.earlier (pair_known content c.args.number c.requires.fits.0 c.unwrap-mate.result c.requires.fits.1 mate c.pair_of-pair.result c.pair_of-pair.ensures).is_pair.is_earlier).0

pub settle_known-requires-clause-two : goal.settle_known-requires-clause-two
settle_known-requires-clause-two c =
    let content = content_in (listed c.args.lists.now) in
    let mate : (content.standing c.args.number).mate ≡ Some c.unwrap-mate.result = search rules in
    pair_two content c.args.number c.requires.fits.0 c.unwrap-mate.result c.requires.fits.1 mate c.pair_of-pair.result c.pair_of-pair.ensures

pub settle_known-requires-clause-known : goal.settle_known-requires-clause-known
settle_known-requires-clause-known c =
    let content = content_in (listed c.args.lists.now) in
    let mate : (content.standing c.args.number).mate ≡ Some c.unwrap-mate.result = search rules in
    let pair = c.pair_of-pair.result in
    (instruction_within c.args.lists.now.kept.items pair.number pair.later (pair_known content c.args.number c.requires.fits.0 c.unwrap-mate.result c.requires.fits.1 mate c.pair_of-pair.result c.pair_of-pair.ensures).is_pair.is_later).1

pub settle_known-requires-clause-fits : goal.settle_known-requires-clause-fits
settle_known-requires-clause-fits c =
    let content = content_in (listed c.args.lists.now) in
    let mate : (content.standing c.args.number).mate ≡ Some c.unwrap-mate.result = search rules in
    pair_fits content c.args.number c.requires.fits.0 c.unwrap-mate.result c.requires.fits.1 mate c.pair_of-pair.result c.pair_of-pair.ensures

pub settle_known-requires-clause-covered : goal.settle_known-requires-clause-covered
settle_known-requires-clause-covered c =
    let content = content_in (listed c.args.lists.now) in
    let mate : (content.standing c.args.number).mate ≡ Some c.unwrap-mate.result = search rules in
    let can = c.requires.fits.1 in
    let pair = found_pair content c.args.number c.requires.fits.0 c.unwrap-mate.result c.requires.fits.1 mate in
    pair_covered content c.args.number c.requires.fits.0 c.unwrap-mate.result c.requires.fits.1 mate c.pair_of-pair.result c.pair_of-pair.ensures (c.in_default.ensures can.earlier can.later pair.is_earlier pair.is_later)

pub returns-clause-settled : goal.returns-clause-settled
returns-clause-settled c =
    let content = content_in (listed c.args.lists.now) in
    let mate : (content.standing c.args.number).mate ≡ Some c.unwrap-mate.result = search rules in
    tries_pair content c.args.number c.requires.fits.0 c.unwrap-mate.result c.requires.fits.1 mate c.pair_of-pair.result c.pair_of-pair.ensures Settled (content_in (listed c.settle_known.new.lists)) c.in_ok-settle_known.ensures.settled

pub returns-clause-sound : goal.returns-clause-sound
returns-clause-sound c = sound_tried {E = AllocError} (Ok Settled) (listed c.args.lists.now) (listed c.settle_known.new.lists) c.args.number c.requires.sound (returns-clause-settled c) c.in_ok-settle_known.ensures.rest
