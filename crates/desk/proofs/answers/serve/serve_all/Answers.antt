use Rattle.std.proofs.Common.{subst, sym}
use Rattle.desk_register.specs.View.{IsLater}
use Rattle.desk.specs.ServeAnswer.{HoldsOn}
use Rattle.desk.proofs.ServeLemmas.{goes_on, later_all_along, nothing_later, untouched}
use Rattle.desk.proofs.answers.serve.serve_all.Goals.{in-Ok, in_default}
use Rattle.desk.proofs.answers.serve.serve_all.Goals as goal

pub connections-init : goal.connections-init
connections-init g c = record { keeps = λ honest. untouched c.args.desk.now.is_closed (g.D.Register.view c.args.desk.now.register); later = nothing_later (g.D.Register.view c.args.desk.now.register); open_still = λ memory is. is }

pub connections-preserved : goal.connections-preserved
connections-preserved g c =
    let view = g.D.Register.view in
    let i = c.connections.invariant in
    let first = c.args.desk.now in
    elim c.match-accept.branch [
      | in-Ok w ↦ (
          let s = w.serve_stream.ensures in
          let next = w.serve_stream.new.desk in
          record {
            keeps = λ honest. (let honest1 = subst (λ d. (view d.register).is_honest) w.desk-is honest in
                goes_on (λ d. d.is_closed) (λ d. view d.register) first c.connections.desk next c.match-accept.desk w.desk-is i.later.room (s.served honest1) (i.keeps (s.later.honest honest1)));
            later = subst (λ d. IsLater (view first.register) (view d.register)) (sym w.desk-is) (later_all_along (view first.register) (view c.connections.desk.register) (view next.register) i.later s.later);
            open_still = λ memory is. rw w.desk-is (s.open memory (i.open_still memory is));
          }
          )
      | in_default w ↦ record {
        keeps = λ honest. subst (λ d. HoldsOn first.is_closed (view first.register) d.is_closed (view d.register)) (sym w.desk-is) (i.keeps (subst (λ d. (view d.register).is_honest) w.desk-is honest));
        later = subst (λ d. IsLater (view first.register) (view d.register)) (sym w.desk-is) i.later;
        open_still = λ memory is. rw w.desk-is (i.open_still memory is);
      }
    ]
