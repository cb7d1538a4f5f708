use Rattle.std.proofs.Common.{◌≡◌, take}
use Rattle.serde_json.specs.Data.{no_members}
use Rattle.serde_json.specs.Find.{get_member}
use Rattle.desk_book.specs.Flat.{put_all}
use Rattle.desk_book.proofs.requests.flat.Flat.at.Given as goal

-- what stands at the name stands there among those that were not looked at
abbrev pub invariant-loop-index : goal.invariant-loop-index
invariant-loop-index l = get_member l.name (put_all (take l.index l.members) no_members) ≡ get_member l.name (put_all l.members no_members)
