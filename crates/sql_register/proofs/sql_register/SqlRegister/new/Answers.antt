use Rattle.std.proofs.Common.{◌≡◌, ◌∙◌, IsTrue, false, refl, subst, sym}
use Rattle.sqlite.specs.State.{HasCleanDisk}
use Rattle.desk_register.specs.Changes.{empty_content}
use Rattle.sql_tables.specs.Ends.{IsLater}
use Rattle.sql_register.specs.Content.{content_in}
use Rattle.sql_register.specs.Holds.{Becomes}
use Rattle.sql_register.specs.Made.{IsMade}
use Rattle.sql_register.proofs.MadeLemmas.{made_kept}
use Rattle.sql_register.proofs.ReadLemmas.{was_clean}
use Rattle.sql_register.proofs.sql_register.SqlRegister.new.Goals as goal

pub over-requires : goal.over-requires
over-requires g c =
    let s0 = g.S.Session.state c.args.conn in
    let s1 = g.S.Session.state c.make.new.conn in
    let made : HasCleanDisk s1 → IsMade s1 = λ clean. c.in-Ok.ensures.made clean (c.requires.open (was_clean s0 s1 c.in-Ok.ensures.later clean)) (c.if-not-has_no_table.ensures.some refl) in
    record { limit = c.requires.limit; unlimited = c.in-Ok.ensures.later.limit ∙ c.requires.unlimited; desk = λ clean is_open. made_kept s1 (made clean) }

pub returns-in-Ok-clause-empty : goal.returns-in-Ok-clause-empty
returns-in-Ok-clause-empty g c =
    let s0 = g.S.Session.state c.args.conn in
    let s1 = g.S.Session.state c.make.new.conn in
    let made : HasCleanDisk s1 → IsMade s1 = λ clean. c.in-Ok.ensures.made clean (c.requires.open (was_clean s0 s1 c.in-Ok.ensures.later clean)) (c.if-not-has_no_table.ensures.some refl) in
    subst (λ k. HasCleanDisk (g.S.Session.state k) → content_in (g.S.Session.state k).now ≡ empty_content) (sym c.over.ensures.connection) (λ clean. (made clean).empty.content_is)

pub returns-in-Ok-clause-desk : goal.returns-in-Ok-clause-desk
returns-in-Ok-clause-desk g c =
    let s0 = g.S.Session.state c.args.conn in
    let s1 = g.S.Session.state c.make.new.conn in
    let made : HasCleanDisk s1 → IsMade s1 = λ clean. c.in-Ok.ensures.made clean (c.requires.open (was_clean s0 s1 c.in-Ok.ensures.later clean)) (c.if-not-has_no_table.ensures.some refl) in
    subst (λ k. HasCleanDisk (g.S.Session.state k) → Becomes (g.S.Session.state k).now empty_content) (sym c.over.ensures.connection) (λ clean. (made clean).empty)

pub returns-in-Ok-clause-sure : goal.returns-in-Ok-clause-sure
returns-in-Ok-clause-sure g c =
    let s0 = g.S.Session.state c.args.conn in
    let s1 = g.S.Session.state c.make.new.conn in
    let made : HasCleanDisk s1 → IsMade s1 = λ clean. c.in-Ok.ensures.made clean (c.requires.open (was_clean s0 s1 c.in-Ok.ensures.later clean)) (c.if-not-has_no_table.ensures.some refl) in
    subst (λ k. HasCleanDisk (g.S.Session.state k) → IsTrue (g.S.Session.state k).is_open) (sym c.over.ensures.connection) (λ clean. (made clean).is_open)

pub returns-in-Ok-clause-settled : goal.returns-in-Ok-clause-settled
returns-in-Ok-clause-settled g c =
    let s0 = g.S.Session.state c.args.conn in
    let s1 = g.S.Session.state c.make.new.conn in
    let made : HasCleanDisk s1 → IsMade s1 = λ clean. c.in-Ok.ensures.made clean (c.requires.open (was_clean s0 s1 c.in-Ok.ensures.later clean)) (c.if-not-has_no_table.ensures.some refl) in
    subst (λ k. HasCleanDisk (g.S.Session.state k) → (g.S.Session.state k).now ≡ (g.S.Session.state k).committed) (sym c.over.ensures.connection) (λ clean. (made clean).settled)

pub returns-in-Ok-clause-closed : goal.returns-in-Ok-clause-closed
returns-in-Ok-clause-closed g c =
    let s0 = g.S.Session.state c.args.conn in
    let s1 = g.S.Session.state c.make.new.conn in
    let made : HasCleanDisk s1 → IsMade s1 = λ clean. c.in-Ok.ensures.made clean (c.requires.open (was_clean s0 s1 c.in-Ok.ensures.later clean)) (c.if-not-has_no_table.ensures.some refl) in
    subst (λ k. HasCleanDisk (g.S.Session.state k) → (g.S.Session.state k).in_transaction ≡ false) (sym c.over.ensures.connection) (λ clean. (made clean).mode)

pub returns-in-Ok-clause-outside : goal.returns-in-Ok-clause-outside
returns-in-Ok-clause-outside g c =
    let s0 = g.S.Session.state c.args.conn in
    let s1 = g.S.Session.state c.make.new.conn in
    subst (λ k. HasCleanDisk (g.S.Session.state k) → s0.in_transaction ≡ false) (sym c.over.ensures.connection) (λ clean. c.in-Ok.ensures.outside clean (c.if-not-has_no_table.ensures.some refl))

pub returns-in-Ok-clause-later : goal.returns-in-Ok-clause-later
returns-in-Ok-clause-later g c =
    let s0 = g.S.Session.state c.args.conn in
    let s1 = g.S.Session.state c.make.new.conn in
    subst (λ k. IsLater s0 (g.S.Session.state k)) (sym c.over.ensures.connection) c.in-Ok.ensures.later

pub returns-in-Err-clause-kept : goal.returns-in-Err-clause-kept
returns-in-Err-clause-kept g c clean =
    let s0 = g.S.Session.state c.args.conn in
    let s1 = g.S.Session.state c.make.new.conn in
    c.in-Err.ensures.kept clean (c.requires.open (was_clean s0 s1 c.in-Err.ensures.later clean)) (c.if-not-has_no_table.ensures.some refl)

pub returns-in-Err-clause-blame : goal.returns-in-Err-clause-blame
returns-in-Err-clause-blame g c clean has outside =
    let s0 = g.S.Session.state c.args.conn in
    let s1 = g.S.Session.state c.make.new.conn in
    c.in-Err.ensures.blame clean (c.requires.open (was_clean s0 s1 c.in-Err.ensures.later clean)) has outside
