use Rattle.std.proofs.Common.{◌∙◌}
use Rattle.desk_engine.proofs.SoundLemmas.{kept_sound, left_sound}
use Rattle.desk_engine.proofs.TakingLemmas.{recovered_blame, recovered_later, recovered_left}
use Rattle.desk_engine.proofs.accepting.accept.Goals as goal

pub returns-in-Err-clause-sound : goal.returns-in-Err-clause-sound
returns-in-Err-clause-sound g c = λ books honest sure keeps formed one.
    let v0 = g.R.Register.view c.args.register.now in
    let v1 = g.R.Register.view c.begin.new.self in
    let r = c.recover.ensures.recovers in
    let honest1 = r.later.honest honest in
    left_sound v0 (g.R.Register.view c.recover.new.register) v1.content books c.args.entry c.recover.result keeps formed honest
    (λ shown. c.in-Err.ensures.err.content honest1 (r.later.sure honest shown) c.requires.stage) r.left

pub returns-in-Ok-clause-sound : goal.returns-in-Ok-clause-sound
returns-in-Ok-clause-sound g c = λ books honest sure keeps formed one.
    let v0 = g.R.Register.view c.args.register.now in
    let v1 = g.R.Register.view c.begin.new.self in
    let begins = c.in_default.ensures.ok in
    let honest1 = c.in-Ok.ensures.later.honest honest in
    kept_sound v0 v1 (g.R.Register.view c.put.new.register) books c.args.entry c.in-Ok.accepted one keeps formed (begins.content honest1 sure) c.in_default.ensures.later.room
    (c.in-Ok.ensures.put books honest (begins.sure honest1 sure))

pub returns-in-Err-put-clause-sound : goal.returns-in-Err-put-clause-sound
returns-in-Err-put-clause-sound g c = λ books honest sure keeps formed one.
    let v0 = g.R.Register.view c.args.register.now in
    let v2 = g.R.Register.view c.put.new.register in
    let begins = c.in_default.ensures.ok in
    let broke = c.in-Err-put.ensures in
    let r = c.take_back.ensures.recovers in
    let honest2 = r.later.honest honest in
    let honest1 = broke.later.honest honest2 in
    left_sound v0 (g.R.Register.view c.take_back.new.register) v2.mark books c.args.entry c.take_back.result keeps formed honest
    (λ shown. broke.err.mark honest2 (r.later.sure honest shown) ∙ begins.mark honest1 sure) r.left

pub returns-in-Err-clause-err : goal.returns-in-Err-clause-err
returns-in-Err-clause-err g c =
    let begun = c.in-Err.ensures in
    recovered_left (g.R.Register.view c.args.register.now) (g.R.Register.view c.begin.new.self) (g.R.Register.view c.recover.new.register) c.in-Err.fault c.recover.result c.requires.stage begun.err begun.later c.recover.ensures.recovers

pub returns-in-Err-clause-later : goal.returns-in-Err-clause-later
returns-in-Err-clause-later g c =
    let begun = c.in-Err.ensures in
    recovered_later (g.R.Register.view c.args.register.now) (g.R.Register.view c.begin.new.self) (g.R.Register.view c.recover.new.register) c.in-Err.fault c.recover.result c.requires.stage begun.err begun.later c.recover.ensures.recovers

pub returns-in-Err-clause-blame : goal.returns-in-Err-clause-blame
returns-in-Err-clause-blame g c =
    let begun = c.in-Err.ensures in
    recovered_blame (g.R.Register.view c.args.register.now) (g.R.Register.view c.begin.new.self) (g.R.Register.view c.recover.new.register) c.in-Err.fault c.recover.result c.requires.stage begun.err begun.later c.recover.ensures.recovers begun.blame
