use Rattle.std.proofs.Common.{refl, sym, subst}
use Rattle.std.specs.Prelude.{Some, None}
use Rattle.desk_book.proofs.LeftLemmas.{says_so}
use Rattle.desk_book.specs.Asked.{Asked, asked_by}
use Rattle.desk_drop.specs.Folder.{IsRequestOf, file_of}
use Rattle.desk_drop.proofs.TakingLemmas.{asked_one, refused_one}
use Rattle.desk_drop.proofs.taking.answer_file.Goals as goal

pub returns-in-Some-clause-answered : goal.returns-in-Some-clause-answered
returns-in-Some-clause-answered g c =
    let view = g.R.Register.view in
    let a = c.ask.ensures in
    let asked = asked_by c.with.result in
    let was = c.args.desk.now.is_closed in
    let P : Asked → Type 0 = λ x. IsRequestOf (file_of c.args.file.now) (Some x) in
    let stays = says_so view g.R.Register.in_memory c.ask.result c.args.desk.now c.ask.new.self a.answers in (
      Some asked,
      subst P (sym c.with.ensures) (c.in-Some.ensures.named, refl),
      (stays, a.answers.closed),
      λ books honest holds. asked_one (view c.args.desk.now.register).room was books asked c.ask.result c.ask.new.self.is_closed (view c.ask.new.self.register) a.answers.closed stays (a.step books honest holds),
    )

pub returns-in-None-clause-answered : goal.returns-in-None-clause-answered
returns-in-None-clause-answered g c =
    let view = g.R.Register.view c.args.desk.now.register in
    (None, c.in-None.ensures.none, (c.refuse_name.ensures, refl), λ books honest holds. refused_one view.room c.args.desk.now.is_closed books c.refuse_name.result view holds)
