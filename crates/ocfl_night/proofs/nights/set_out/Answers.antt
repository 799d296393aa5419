use Rattle.std.proofs.{Common.{◌∙◌, ◌∷◌, [], List, ap, Err, refl, subst}, lemmas.Result.{err_from_is_err_and}}
use Rattle.ocfl_night.specs.Refusing.{in_folder}
use Rattle.ocfl_night.proofs.{Looks.{counts_did, counts_none, counts_unidentified}, Moments.{untouched}, Foreigners.{barred_by, no_root_by}}
use Rattle.ocfl_night.proofs.Heard.{begun_heard, grows_none, is_err}
use Rattle.ocfl_tree.specs.{Listing.{entries_in}, Place.{Text}}
use Rattle.ocfl_identity.specs.Identity.{declarations_among}
use Rattle.ocfl_night.proofs.Reading.{are_declarations, content_did, content_none, content_unidentified, counted_names}
use Rattle.ocfl_night.proofs.Asking.{looks_all, looks_none, looks_unidentified}
use Rattle.ocfl_night.specs.Asking.{LooksOnly}
use Rattle.ocfl_state.specs.Checkpoint.{Checkpoint}
use Rattle.ocfl_night.specs.{Site.{IsOfSite, IsOfStore}, Stopping.{ForNight, IsUnlooked, TellsKept, course}}
use Rattle.ocfl_night.proofs.{Foreigners.{site_of}, Reasons.{opens_so, set_out_reason}}
use Rattle.ocfl_night.proofs.nights.set_out.Goals as goal

pub returns-in_err-part-clause-heard : goal.returns-in_err-part-clause-heard
returns-in_err-part-clause-heard g c = λ told rounds checks kept. begun_heard (g.met.S.StateFolder.only_now told) kept

pub returns-in_err-identity-clause-heard : goal.returns-in_err-identity-clause-heard
returns-in_err-identity-clause-heard g c = λ told rounds checks kept. begun_heard (g.met.S.StateFolder.only_now told) kept

pub returns-in_err-part-clause-grew : goal.returns-in_err-part-clause-grew
returns-in_err-part-clause-grew g c = grows_none _

pub returns-in_err-identity-clause-grew : goal.returns-in_err-identity-clause-grew
returns-in_err-identity-clause-grew g c = grows_none _

pub returns-in_err-part-clause-barred : goal.returns-in_err-part-clause-barred
returns-in_err-part-clause-barred g c = λ told barred. (is_err _ c.from_residual.result c.from_residual.ensures.1, untouched)

pub returns-in_err-identity-clause-barred : goal.returns-in_err-identity-clause-barred
returns-in_err-identity-clause-barred g c = λ told barred. (is_err _ c.from_residual-in_err-identity.result c.from_residual-in_err-identity.ensures.1, untouched)

pub returns-in_err-checkpoint-clause-barred : goal.returns-in_err-checkpoint-clause-barred
returns-in_err-checkpoint-clause-barred g c = λ told barred.
    let tells = c.catch_up.ensures in
    let same = barred_by c.in_ok-identity.identity c.in_ok-identity.ensures.told c.in_ok-identity.ensures.declares (λ k at foreign. (tells.foreign told k at foreign).1) (λ k at n below older. (tells.older told k at n below older).1) barred in
    (is_err _ c.from_residual-in_err-checkpoint.result c.from_residual-in_err-checkpoint.ensures.1, same)

pub returns-clause-barred : goal.returns-clause-barred
returns-clause-barred g c = λ told barred.
    let tells = c.in_ok-checkpoint.ensures in
    let no : ⊥ = barred_by c.in_ok-identity.identity c.in_ok-identity.ensures.told c.in_ok-identity.ensures.declares (λ k at foreign. absurd (cc (tells.foreign told k at foreign).0)) (λ k at n below older. absurd (cc (tells.older told k at n below older).0)) barred in
    absurd no

pub returns-in_err-identity-clause-rightly : goal.returns-in_err-identity-clause-rightly
returns-in_err-identity-clause-rightly g c = λ told why is.
    let p = err_from_is_err_and c.from_residual-in_err-identity.result c.from_residual-in_err-identity.ensures.1 in
    no_root_by c.look_at_root.result _ c.in_err-identity.was (cc (p.1, p.2, is)) c.look_at_root.ensures.undeclared

pub returns-in_err-checkpoint-clause-rightly : goal.returns-in_err-checkpoint-clause-rightly
returns-in_err-checkpoint-clause-rightly g c = λ told why is.
    let p = err_from_is_err_and c.from_residual-in_err-checkpoint.result c.from_residual-in_err-checkpoint.ensures.1 in
    in_folder c.in_ok-identity.identity c.in_ok-identity.ensures.told (c.in_err-checkpoint.ensures.rightly told why (cc (p.1, p.2, is)))

pub returns-in_err-part-clause-counts : goal.returns-in_err-part-clause-counts
returns-in_err-part-clause-counts g c = λ tells root over short. counts_none _

pub returns-in_err-identity-clause-counts : goal.returns-in_err-identity-clause-counts
returns-in_err-identity-clause-counts g c = λ tells root over short.
    counts_unidentified _ short (λ is. c.look_at_root.ensures.unopened tells (c.in_err-identity.was ∙ ap Err is)) (c.in_err-identity.ensures.unread tells root over) (c.in_err-identity.ensures.refused tells root over)

pub returns-in_err-checkpoint-clause-counts : goal.returns-in_err-checkpoint-clause-counts
returns-in_err-checkpoint-clause-counts g c = λ tells root over short. counts_did (c.in_ok-identity.ensures.opened tells root over)

pub returns-clause-counts : goal.returns-clause-counts
returns-clause-counts g c = λ tells root over short. counts_did (c.in_ok-identity.ensures.opened tells root over)

pub returns-in_err-part-clause-lost_only : goal.returns-in_err-part-clause-lost_only
returns-in_err-part-clause-lost_only g c = λ told not_yet is. absurd (cc (not_yet, is))

pub returns-in_err-identity-clause-lost_only : goal.returns-in_err-identity-clause-lost_only
returns-in_err-identity-clause-lost_only g c = λ told not_yet is. absurd (cc (not_yet, is))

pub returns-in_err-part-clause-content : goal.returns-in_err-part-clause-content
returns-in_err-part-clause-content g c = λ tells root over short. content_none c.args.site.now.further root (g.T.Tree.state c.args.tree.now)

pub returns-in_err-identity-clause-content : goal.returns-in_err-identity-clause-content
returns-in_err-identity-clause-content g c = λ tells root over short.
    content_unidentified c.args.site.now.further root _ _ (declarations_among (entries_in root [])) (counted_names (entries_in root [])) _ short (λ is. c.look_at_root.ensures.unopened tells (c.in_err-identity.was ∙ ap Err is)) (c.in_err-identity.ensures.unread tells root over) (c.in_err-identity.ensures.refused tells root over)

pub returns-in_err-checkpoint-clause-content : goal.returns-in_err-checkpoint-clause-content
returns-in_err-checkpoint-clause-content g c = λ tells root over short.
    content_did c.args.site.now.further root _ _ _ (are_declarations root _ (c.in_ok-identity.ensures.told tells root over)) (c.in_ok-identity.ensures.opened tells root over)

pub returns-clause-content : goal.returns-clause-content
returns-clause-content g c = λ tells root over short.
    content_did c.args.site.now.further root _ _ _ (are_declarations root _ (c.in_ok-identity.ensures.told tells root over)) (c.in_ok-identity.ensures.opened tells root over)

pub returns-clause-declares : goal.returns-clause-declares
returns-clause-declares g c = λ tells root over. are_declarations root _ (c.in_ok-identity.ensures.told tells root over)

pub returns-in_err-part-clause-looks : goal.returns-in_err-part-clause-looks
returns-in_err-part-clause-looks g c = λ tells root over short. looks_none _ _ (g.T.Tree.state c.args.tree.now) _ refl

pub returns-in_err-identity-clause-looks : goal.returns-in_err-identity-clause-looks
returns-in_err-identity-clause-looks g c = λ tells root over short.
    looks_unidentified root (declarations_among (entries_in root [])) _ short (λ is. c.look_at_root.ensures.unopened tells (c.in_err-identity.was ∙ ap Err is)) (c.in_err-identity.ensures.unread tells root over) (c.in_err-identity.ensures.refused tells root over)

pub returns-in_err-checkpoint-clause-looks : goal.returns-in_err-checkpoint-clause-looks
returns-in_err-checkpoint-clause-looks g c = λ tells root over short.
    subst (λ (ns : List Text). LooksOnly ns ([] ∷ []) (g.T.Tree.state c.args.tree.now) (g.T.Tree.state c.look_at_root.new.store)) (c.in_ok-identity.ensures.told tells root over).declarations (looks_all root _ (c.in_ok-identity.ensures.opened tells root over))

pub returns-clause-looks : goal.returns-clause-looks
returns-clause-looks g c = λ tells root over short.
    subst (λ (ns : List Text). LooksOnly ns ([] ∷ []) (g.T.Tree.state c.args.tree.now) (g.T.Tree.state c.look_at_root.new.store)) (c.in_ok-identity.ensures.told tells root over).declarations (looks_all root _ (c.in_ok-identity.ensures.opened tells root over))

pub returns-clause-declared : goal.returns-clause-declared
returns-clause-declared g c = λ tells root over. (c.in_ok-identity.ensures.told tells root over).declarations

pub returns-clause-own : goal.returns-clause-own
returns-clause-own g c = site_of c.in_ok-identity.ensures.told c.in_ok-checkpoint.ensures.own

pub returns-in_err-checkpoint-clause-stop : goal.returns-in_err-checkpoint-clause-stop
returns-in_err-checkpoint-clause-stop g c =
    let r = c.from_residual-in_err-checkpoint.result in
    let p = err_from_is_err_and r c.from_residual-in_err-checkpoint.ensures.1 in
    let s = g.T.Tree.state c.args.tree.now in
    let kept = TellsKept g.S.StateFolder c.args.site.now.further c.args.folder.now in
    let now = course c.args.site.now.further c.args.plan.now.create (g.S.StateFolder.seen c.args.folder.now) 0 (g.O.Output.said c.args.out.now) (g.O.Output.said c.catch_up.new.out) in
    let unlooked = IsUnlooked g.T.Tree.told s (g.T.Tree.state c.look_at_root.new.store) in
    let site = IsOfSite c.args.site.now c.in_ok-identity.identity in
    let store = IsOfStore g.T.Tree.told s c.args.site.now in
    opens_so kept kept (ForNight (λ _. ⊥) site now) (ForNight unlooked store now) _ (g.S.StateFolder.faults c.args.folder.now) _ Checkpoint r c.in_err-checkpoint.field-0.0 (cc (p.1, p.2))
    (λ why. set_out_reason kept unlooked site store now _ _ why (λ l of. site_of c.in_ok-identity.ensures.told of)) c.in_err-checkpoint.ensures.stop
