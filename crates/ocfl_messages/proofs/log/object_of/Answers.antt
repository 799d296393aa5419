use Rattle.std.proofs.Common.{◌+◌, ◌∙◌, sym, ap, List, drop}
use Rattle.std.proofs.lemmas.List.{at_drop_all, at_drop_more}
use Rattle.serde_json.specs.{Data.{Members, object}, View.{members_view}}
use Rattle.serde_json.proofs.Views.{view-Object}
use Rattle.ocfl_messages.specs.{Internal.Members.{with_members}, declared.log.Member.{Member}}
use Rattle.ocfl_messages.proofs.log.object_of.Goals as goal

pub loop-member-preserved : goal.loop-member-preserved
loop-member-preserved c =
    ap (λ (ms : Members). with_members (drop (c.loop-member.member-index + 1) c.args.members.now) ms) c.in_ok-put_member.ensures
    ∙ sym (at_drop_more (λ (xs : List Member). with_members xs (members_view c.loop-member.map.entries)) c.args.members.now c.loop-member.member-index _ c.loop-member-test.true)
    ∙ c.loop-member.invariant

pub returns : goal.returns
returns c =
    view-Object c.loop-member.map
    ∙ ap object (sym (at_drop_all (λ (xs : List Member). with_members xs (members_view c.loop-member.map.entries)) c.args.members.now c.loop-member.member-index c.loop-member-test.false)
    ∙ c.loop-member.invariant)
