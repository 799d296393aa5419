use Rattle.ocfl_scrub.proofs.CheckLaws.{place_there, place_bare, nothing_there, not_gone_down, check_stopped, check_took, check_missed}
use Rattle.ocfl_scrub.proofs.AuditsJoined.{audits_over}
use Rattle.ocfl_scrub.proofs.checking.check.Goals as goal

pub returns-in-Ok-None-clause-told : goal.returns-in-Ok-None-clause-told
returns-in-Ok-None-clause-told g c told root e short =
    let went = c.in-Ok-None.ensures.told told root e in
    nothing_there c.args.further root c.args.place.now _ _ _ went.0 (place_bare c.args.further root c.args.place.now _ c.in-Ok-None.field-0-is went.1)

pub returns-in-Err-clause-told : goal.returns-in-Err-clause-told
returns-in-Err-clause-told g c told root e short =
    let went = c.in-Err.ensures.told told root e in
    check_stopped c.args.further root _ _ _ _ _ _ _ _ _ c.stopped.ensures.end (not_gone_down c.args.further root c.args.place.now _ _ _ _ went)

pub returns-in-Ok-clause-told : goal.returns-in-Ok-clause-told
returns-in-Ok-clause-told g c told root e short =
    let went = c.in-Ok-Some.ensures.told told root e in
    let there = place_there c.args.further root c.args.place.now _ _ c.in-Ok-Some.field-0-is went.1 in
    let takes = c.in-Ok.ensures.told c.args.further told root (audits_over went.0.audits) short there.1 in
    check_took c.args.further root _ _ _ _ _ c.args.place.now c.in-Ok-Some.pending.place _ _ there.2 went.0 there.0 takes

pub returns-in-Err-take_item-clause-told : goal.returns-in-Err-take_item-clause-told
returns-in-Err-take_item-clause-told g c told root e short =
    let went = c.in-Ok-Some.ensures.told told root e in
    let there = place_there c.args.further root c.args.place.now _ _ c.in-Ok-Some.field-0-is went.1 in
    let misses = c.in-Err-take_item.ensures.told c.args.further told root (audits_over went.0.audits) short there.1 in
    check_missed c.args.further root _ _ _ _ _ c.args.place.now c.in-Ok-Some.pending.place _ _ _ _ c.stopped-in-Err-take_item.ensures.end there.2 went.0 there.0 misses
