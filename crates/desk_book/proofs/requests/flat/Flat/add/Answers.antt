-- A new name is one more.
use Rattle.std.proofs.Common.{◌≡◌, length, sym, ◌∙◌, subst}
use Rattle.serde_json.specs.Data.{no_members}
use Rattle.serde_json.specs.Events.{members_len}
use Rattle.desk_book.specs.Flat.{put_all}
use Rattle.desk_book.proofs.FlatLemmas.{once_push}
use Rattle.desk_book.proofs.requests.flat.Flat.add.Goals as goal

pub invariant_of-self : goal.invariant_of-self
invariant_of-self c =
    record { each_once = subst (λ ms. members_len (put_all ms no_members) ≡ length ms) (sym c.push.ensures.items) (once_push c.args.self.now.members.items c.args.member c.at.result c.args.self.now.each_once c.at.ensures (sym c.is_some.ensures ∙ c.if-is_some.false)) }
