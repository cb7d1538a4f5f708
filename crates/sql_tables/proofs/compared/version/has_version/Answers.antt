use Rattle.std.proofs.Common.{◌∙◌, ◌≡◌, ◌↔◌, ◌∷◌, [], pos, subst, IsTrue, Vec}
use Rattle.std.specs.declared.alloc.Global.{Global}
use Rattle.sqlite.specs.Order.{Row}
use Rattle.sqlite.specs.declared.types.Value.TheVariants.{Int}
use Rattle.sql_tables.proofs.ComparedVersion.{says_version, version_shown}
use Rattle.sql_tables.proofs.LookLemmas.{look_ok, look_passed}
use Rattle.sql_tables.proofs.compared.version.has_version.Goals as goal

pub returns-clause-says : goal.returns-clause-says
returns-clause-says g c clean is_open has formed =
    let tells = subst (λ n. IsTrue c.is_version.result ↔ (c.deref.result.now ≡ (Int (pos n) ∷ []) ∷ [])) c.number.ensures c.is_version.ensures.exact in
    says_version c.args.version (g.S.Session.state c.args.conn.now).now c.deref.result.now c.in_ok-rows.rows.items c.is_version.result (c.in_ok-rows.ensures.shown c.args.version clean is_open has) c.deref.ensures.value tells formed

pub returns-clause-all : goal.returns-clause-all
returns-clause-all g c clean is_open has version =
    let tells = subst (λ n. IsTrue c.is_version.result ↔ (c.deref.result.now ≡ (Int (pos n) ∷ []) ∷ [])) c.number.ensures c.is_version.ensures.exact in
    tells.1 (c.deref.ensures.value ∙ version_shown c.args.version (g.S.Session.state c.args.conn.now).now c.in_ok-rows.rows.items version (c.in_ok-rows.ensures.shown c.args.version clean is_open has))

pub returns-in_err-rows-clause-look : goal.returns-in_err-rows-clause-look
returns-in_err-rows-clause-look g c =
    look_passed (Vec Row Global) c.in_err-rows.field-0.0 c.from_residual.result c.from_residual.ensures.1 (g.S.Session.state c.args.conn.now) (g.S.Session.state c.rows_of.new.conn) (c.in_err-rows.ensures.look c.args.version)

pub returns-clause-look : goal.returns-clause-look
returns-clause-look g c = look_ok c.in_ok-rows.rows c.is_version.result (g.S.Session.state c.args.conn.now) (g.S.Session.state c.rows_of.new.conn) (c.in_ok-rows.ensures.look c.args.version)
