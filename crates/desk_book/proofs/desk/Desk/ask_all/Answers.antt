use Rattle.std.proofs.lemmas.List.Elements.{All-push}
use Rattle.desk_book.specs.Answered.{says_closed}
use Rattle.desk_book.specs.Asked.{asked_by}
use Rattle.std.proofs.Common.{rules, true, ◌≡◌, ◌∷◌, [], ◌++◌, map}
use Rattle.desk_book.proofs.OnceLemmas.{act_once}
use Rattle.desk_book.proofs.LeftLemmas.{leaves_on, says_so, stays_closed}
use Rattle.desk_book.proofs.RunLemmas.{blamed, run_steps, run_all}
use Rattle.desk_book.proofs.desk.Desk.ask_all.Goals as goal

pub requests-preserved : goal.requests-preserved
requests-preserved g c =
    let i = c.requests.invariant in
    let a = c.ask-answer.ensures in
    let view = g.R.Register.view in
    let in_memory = g.R.Register.in_memory in
    let v0 = view c.args.self.now.register in
    let v1 = view c.requests.self.register in
    let v2 = view c.ask-answer.new.self.register in
    let stays = says_so view in_memory c.ask-answer.result c.requests.self c.ask-answer.new.self a.answers in
    let items : c.push.new.self.items ≡ c.requests.answers.items ++ c.ask-answer.result ∷ [] = search rules in
    record {
      room = search rules;
      count = search rules;
      left = leaves_on view in_memory c.args.self.now c.requests.self c.ask-answer.new.self i.left a.answers.left;
      closed = λ was. rw items (All-push (λ answer. says_closed answer ≡ true) c.requests.answers.items c.ask-answer.result (i.closed was) (stays (stays_closed view in_memory c.args.self.now c.requests.self i.left was)));
      blame = rw items (blamed v0 v1 v2 c.requests.answers.items c.ask-answer.result a.answers.left.later i.blame a.answers.blame);
      in_turn = λ books honest holds.
          run_steps v0 v1 v2 c.args.self.now.is_closed c.requests.self.is_closed c.ask-answer.new.self.is_closed books c.args.requests.now c.requests.request-index c.request-item.result
          c.requests.answers.items c.push.new.self.items c.ask-answer.result c.requests-test.true c.request-item.is items i.left.later a.answers.left.later a.answers.closed stays (i.in_turn books (a.answers.left.later.honest honest) holds)
          (λ b h. a.step b honest h);
    }

pub returns-clause-in_turn : goal.returns-clause-in_turn
returns-clause-in_turn g c = λ books honest holds.
    let v0 = g.R.Register.view c.args.self.now.register in
    let run = run_all v0 (g.R.Register.view c.requests.self.register) c.args.self.now.is_closed c.requests.self.is_closed books c.args.requests.now c.requests.request-index c.requests.answers.items
    c.requests-test.false (c.requests.invariant.in_turn books honest holds) in
    (run.0, run.1, run.2, run.3, act_once v0.room c.args.self.now.is_closed books run.0 (map asked_by c.args.requests.now) c.requests.answers.items c.requests.self.is_closed run.1)
