use Rattle.std.proofs.Common.{◌≡◌, drop}
use Rattle.serde_json.specs.{Data.{no_members}, View.{members_view}}
use Rattle.ocfl_messages.specs.Internal.Members.{with_members}
use Rattle.ocfl_messages.proofs.log.object_of.Given as goal

-- with the rest of the members the object has all of them
abbrev pub invariant-loop-member : goal.invariant-loop-member
invariant-loop-member l = with_members (drop l.member-index l.members) (members_view l.map.entries) ≡ with_members l.members no_members
