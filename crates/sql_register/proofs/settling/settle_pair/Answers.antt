use Rattle.std.proofs.Common.{◌≡◌, ◌∙◌, sym, ap, subst, ℕ, IfOk}
use Rattle.sqlite.specs.Effect.{Database}
use Rattle.sqlite.specs.State.{HasCleanDisk}
use Rattle.desk_register.specs.Changes.{CanSettle, IsPairAt, TriesPair}
use Rattle.sql_tables.specs.Schema.{desk_schema}
use Rattle.sql_register.specs.Content.{content_in}
use Rattle.sql_register.specs.Holds.{IsDesk}
use Rattle.sql_register.proofs.WithinLemmas.{look_trial}
use Rattle.sql_tables.specs.Ends.{ForCause, IfSound, IsSame}
use Rattle.sql_tables.proofs.ResultLemmas.{on_error}
use Rattle.sql_register.proofs.CauseLemmas.{IsReady, caused_from}
use Rattle.sql_register.proofs.ReadLemmas.{was_clean}
use Rattle.sql_register.proofs.settling.settle_pair.Goals as goal

pub returns-clause-trial : goal.returns-clause-trial
returns-clause-trial g c =
    look_trial c.in_ok-pair.pair c.settle_found.result (g.S.Session.state c.args.conn.now) (g.S.Session.state c.pair_at.new.conn) (g.S.Session.state c.settle_found.new.conn) c.in_ok-pair.ensures.look c.settle_found.ensures.trial

pub returns-clause-changed : goal.returns-clause-changed
returns-clause-changed g c clean is_open has desk day can inside none =
    let s0 = g.S.Session.state c.args.conn.now in
    let s1 = g.S.Session.state c.pair_at.new.conn in
    let s2 = g.S.Session.state c.settle_found.new.conn in
    let clean1 : HasCleanDisk s1 = was_clean _ _ c.settle_found.ensures.trial.later clean in
    let same = c.in_ok-pair.ensures.look.ok clean1 is_open has in
    let found = c.in_ok-pair.ensures.value clean1 is_open has desk in
    let p = c.in_ok-pair.pair in
    let content = content_in s0.now in
    let pair : IsPairAt content p.number p.mate p.earlier p.later = subst (λ k. IsPairAt content k p.mate p.earlier p.later) (sym found.0) found.1 in
    let able : CanSettle content p.number day = subst (λ k. CanSettle content k day) (sym found.0) can in
    let has1 : s1.now.schema ≡ desk_schema = ap (λ (d : Database). d.schema) same.now ∙ has in
    let tries = c.settle_found.ensures.changed clean same.is_open has1 (subst IsDesk (sym same.now) desk) day (subst (λ (d : Database). CanSettle (content_in d) p.number day) (sym same.now) able)
    (subst (λ (d : Database). IsPairAt (content_in d) p.number p.mate p.earlier p.later) (sym same.now) pair) (same.mode ∙ inside) (same.marks ∙ none) in
    subst (λ (k : ℕ). IfOk c.settle_found.result (λ outcome. IsDesk s2.now × TriesPair content k outcome (content_in s2.now))) found.0
    (subst (λ (d : Database). IfOk c.settle_found.result (λ outcome. IsDesk s2.now × TriesPair (content_in d) p.number outcome (content_in s2.now))) same.now tries)

pub returns-in_err-pair-clause-blame : goal.returns-in_err-pair-clause-blame
returns-in_err-pair-clause-blame g c clean is_open has desk day can inside none =
    let s0 = g.S.Session.state c.args.conn.now in
    let e = c.in_err-pair.field-0.0 in
    on_error c.from_residual.result e (ForCause s0 (g.S.Session.state c.pair_at.new.conn)) c.from_residual.ensures.1
    (c.in_err-pair.ensures.blame clean is_open has desk can.mate can.earlier can.later can.pair)

pub returns-clause-blame : goal.returns-clause-blame
returns-clause-blame g c clean is_open has desk day can inside none =
    let s0 = g.S.Session.state c.args.conn.now in
    let s1 = g.S.Session.state c.pair_at.new.conn in
    let s2 = g.S.Session.state c.settle_found.new.conn in
    let clean1 : HasCleanDisk s1 = was_clean _ _ c.settle_found.ensures.trial.later clean in
    let found = c.in_ok-pair.ensures.value clean1 is_open has desk in
    let p = c.in_ok-pair.pair in
    let content = content_in s0.now in
    let pair : IsPairAt content p.number p.mate p.earlier p.later = subst (λ k. IsPairAt content k p.mate p.earlier p.later) (sym found.0) found.1 in
    let able : CanSettle content p.number day = subst (λ k. CanSettle content k day) (sym found.0) can in
    let looks : IfSound s0 s1 (IsReady s1 (IsSame s0 s1)) = (λ clean0 open0 has0.
    let same = c.in_ok-pair.ensures.look.ok clean0 open0 has0 in
    record { is_open = same.is_open; schema = ap (λ (d : Database). d.schema) same.now ∙ has0; holds = same }) in
    caused_from c.settle_found.result s0 s1 s2 (IsSame s0 s1) c.in_ok-pair.ensures.look.later c.settle_found.ensures.trial.later looks
    (λ clean2 open1 has1 same. c.settle_found.ensures.blame clean2 open1 has1 (subst IsDesk (sym same.now) desk) day
    (subst (λ (d : Database). CanSettle (content_in d) p.number day) (sym same.now) able)
    (subst (λ (d : Database). IsPairAt (content_in d) p.number p.mate p.earlier p.later) (sym same.now) pair) (same.mode ∙ inside) (same.marks ∙ none)) clean is_open has
