use Rattle.std.specs.Prelude.{IfOk, IsTrue}
use Rattle.std.proofs.{Common.{◌≡◌, ◌≤◌, ◌∙◌, [], ap, refl, rules, sym, subst}, lemmas.Result.{IfOk-weaker, on_ok_weaker}}
use Rattle.ocfl_state.specs.{Checkpoint.{Checkpoint}, Content.{Content}}
use Rattle.ocfl_night.specs.{Beginning.{position, stored}, Older.{IsOlder}, Refusing.{IsDisowned, IsOutdated, not_own, outdated}, Sound.{IsAt, IsNew}, Steps.{IsOpened, IsTakenUp}, Stopping.{ForFirst, ForOpen, ForPut, IsToOpen}}
use Rattle.ocfl_night.proofs.{Beginnings.{begun_first, first_to_open, taken_stays, taken_within}, Foreigners.{at_once, first_own, own_at, taken_own}, Moments.{same_twice, unchanged}, Heard.{is_err, kept_found}}
use Rattle.ocfl_night.proofs.TakingUp.{found_on, found_ready, none_found, same_found, settled_there, shown_new, some_found, taken_moments, said_none}
use Rattle.ocfl_night.specs.{Site.{IsOwn}, declared.opening.Opened.{Opened}}
use Rattle.ocfl_night.proofs.Reasons.{first_reason, open_reason, opens_over}
use Rattle.ocfl_night.proofs.{Lost.{first_not, lost_opened, opened_as}, Whole.{first_whole, opened_whole}}
use Rattle.ocfl_night.proofs.opening.open.Given as given
use Rattle.ocfl_night.proofs.opening.open.Goals.{After-go_on}
use Rattle.ocfl_night.proofs.opening.open.Goals as goal

-- the checkpoint that is there is opened
opened_here : (g : given.Over) (c : After-go_on g) (told : IsTrue g.S.StateFolder.told) (k : Checkpoint) → IsAt k (g.S.StateFolder.seen c.args.folder.now)
    → IfOk c.go_on.result (IsOpened c.args.identity.now k (g.S.StateFolder.seen c.args.folder.now))
opened_here g c told k at =
    let is = c.in-Ok.ensures.same ∙ at_once (some_found (c.in_ok-found.ensures.value told) c.in-Some.is) at in
    IfOk-weaker c.go_on.result _ _ (λ o h. opened_as is (c.look.ensures.seen told) h) (c.go_on.ensures.opened told)

pub returns-in-Err-clause-any_moment : goal.returns-in-Err-clause-any_moment
returns-in-Err-clause-any_moment g c = λ told rounds checks kept. unchanged (g.met.S.StateFolder.only_now told) (λ x n. kept_found kept n) (c.look.ensures.crash told)

pub returns-in-Ok-clause-any_moment : goal.returns-in-Ok-clause-any_moment
returns-in-Ok-clause-any_moment g c = λ told rounds checks kept.
    let at = same_found (c.in_ok-found.ensures.value told) c.in-Some.is c.in-Ok.ensures.same in
    taken_moments (g.met.S.StateFolder.only_now told) (g.met.S.StateFolder.stays told c.args.folder.now) kept (c.look.ensures.crash told) at (c.look.ensures.seen told) (c.in_ok-found.ensures.only told) (c.go_on.ensures.any_moment told rounds)

pub returns-in-Ok-clause-ready : goal.returns-in-Ok-clause-ready
returns-in-Ok-clause-ready g c = λ told rounds checks kept.
    let was = g.met.S.StateFolder.stays told c.args.folder.now in
    let sound = kept (g.S.StateFolder.seen c.args.folder.now) was in
    let at = same_found (c.in_ok-found.ensures.value told) c.in-Some.is c.in-Ok.ensures.same in
    IfOk-weaker c.go_on.result _ _ (λ o r. found_ready kept _ was refl r)
    (c.go_on.ensures.ready told rounds sound.0 (settled_there sound.1 at (c.look.ensures.seen told) (c.in_ok-found.ensures.only told)))

pub returns-in_default-clause-any_moment : goal.returns-in_default-clause-any_moment
returns-in_default-clause-any_moment g c = λ told rounds checks kept.
    let was = g.met.S.StateFolder.stays told c.args.folder.now in
    let same = c.look.ensures.seen told in
    let none = none_found (g.S.StateFolder.seen c.args.folder.now) (c.in_ok-found.ensures.value told) c.in_default.is in
    let new = shown_new rounds (kept (g.S.StateFolder.seen c.args.folder.now) was) none in
    found_on (g.met.S.StateFolder.only_now told) was kept (c.look.ensures.crash told) (said_none rounds _ (kept (g.S.StateFolder.seen c.args.folder.now) was) none)
    (c.begin.ensures.any_moment told rounds checks (c.in_ok-found.ensures.only told) (ap (λ (x : Content). x.checkpoint) same ∙ none) (subst (IsNew []) (sym same) new))

pub returns-in_default-clause-ready : goal.returns-in_default-clause-ready
returns-in_default-clause-ready g c = λ told rounds checks kept.
    let was = g.met.S.StateFolder.stays told c.args.folder.now in
    let none = none_found (g.S.StateFolder.seen c.args.folder.now) (c.in_ok-found.ensures.value told) c.in_default.is in
    let new = shown_new rounds (kept (g.S.StateFolder.seen c.args.folder.now) was) none in
    IfOk-weaker c.begin.result _ _ (λ o r. found_ready kept _ was (said_none rounds _ (kept (g.S.StateFolder.seen c.args.folder.now) was) none) r)
    (c.begin.ensures.ready told rounds checks (c.in_ok-found.ensures.only told) (subst (IsNew []) (sym (c.look.ensures.seen told)) new))

pub returns-in_err-found-clause-foreign : goal.returns-in_err-found-clause-foreign
returns-in_err-found-clause-foreign g c = λ told k at foreign. (is_err _ c.from_residual.result c.from_residual.ensures.1, record { same = c.look.ensures.seen told; crash = c.look.ensures.crash told })

pub returns-in_default-clause-foreign : goal.returns-in_default-clause-foreign
returns-in_default-clause-foreign g c = λ told k at foreign. let none = none_found (g.S.StateFolder.seen c.args.folder.now) (c.in_ok-found.ensures.value told) c.in_default.is in absurd (cc (none, at.is))

pub returns-in-Err-clause-foreign : goal.returns-in-Err-clause-foreign
returns-in-Err-clause-foreign g c = λ told k at foreign. (refl, record { same = c.look.ensures.seen told; crash = c.look.ensures.crash told })

pub returns-in-Ok-clause-foreign : goal.returns-in-Ok-clause-foreign
returns-in-Ok-clause-foreign g c = λ told k at foreign.
    absurd (own_at (some_found (c.in_ok-found.ensures.value told) c.in-Some.is) at c.in-Ok.ensures.own c.in-Ok.ensures.root foreign)

pub returns-in_err-found-clause-older : goal.returns-in_err-found-clause-older
returns-in_err-found-clause-older g c = λ told k at n below older. (is_err _ c.from_residual.result c.from_residual.ensures.1, record { same = c.look.ensures.seen told; crash = c.look.ensures.crash told })

pub returns-in_default-clause-older : goal.returns-in_default-clause-older
returns-in_default-clause-older g c = λ told k at n below older. let none = none_found (g.S.StateFolder.seen c.args.folder.now) (c.in_ok-found.ensures.value told) c.in_default.is in absurd (cc (none, at.is))

pub returns-in-Err-clause-older : goal.returns-in-Err-clause-older
returns-in-Err-clause-older g c = λ told k at n below older. (refl, record { same = c.look.ensures.seen told; crash = c.look.ensures.crash told })

pub returns-in-Ok-clause-older : goal.returns-in-Ok-clause-older
returns-in-Ok-clause-older g c = λ told k at n below older.
    let s = g.S.StateFolder.seen in
    let is = c.in-Ok.ensures.same ∙ at_once (some_found (c.in_ok-found.ensures.value told) c.in-Some.is) at in
    let by = subst (λ (x : Content). IsOlder c.in-Ok.checkpoint x n) (sym (c.look.ensures.seen told)) (subst (λ (x : Checkpoint). IsOlder x (s c.args.folder.now) n) (sym is) older) in
    let away = c.go_on.ensures.older told n below by in
    (away.0, record { same = away.1.same ∙ c.look.ensures.seen told; crash = same_twice (c.look.ensures.crash told) away.1.crash })

pub returns-in_default-clause-lost : goal.returns-in_default-clause-lost
returns-in_default-clause-lost g c = λ told k at lost. let none = none_found (g.S.StateFolder.seen c.args.folder.now) (c.in_ok-found.ensures.value told) c.in_default.is in absurd (cc (none, at.is))

pub returns-in-Ok-clause-lost : goal.returns-in-Ok-clause-lost
returns-in-Ok-clause-lost g c = λ told k at lost.
    IfOk-weaker c.go_on.result _ _ (λ o h. lost_opened h lost) (opened_here g (goal.at.returns-in-Ok-clause-lost g c).After-go_on told k at)

pub returns-in-Ok-clause-lost_only : goal.returns-in-Ok-clause-lost_only
returns-in-Ok-clause-lost_only g c = λ told.
    let k = c.in-Some.found in
    let at = some_found (c.in_ok-found.ensures.value told) c.in-Some.is in
    IfOk-weaker c.go_on.result _ _ (λ o h is. (k, (at, h.lost.0 is))) (opened_here g (goal.at.returns-in-Ok-clause-lost_only g c).After-go_on told k at)

pub returns-in-Ok-clause-opened : goal.returns-in-Ok-clause-opened
returns-in-Ok-clause-opened g c = λ told k at. opened_here g (goal.at.returns-in-Ok-clause-opened g c).After-go_on told k at

pub returns-in-Ok-clause-first : goal.returns-in-Ok-clause-first
returns-in-Ok-clause-first g c = λ told none. let at = some_found (c.in_ok-found.ensures.value told) c.in-Some.is in absurd (cc (none, at.is))

pub returns-in_default-clause-lost_only : goal.returns-in_default-clause-lost_only
returns-in_default-clause-lost_only g c = λ told. IfOk-weaker c.begin.result _ _ (λ o h is. absurd (first_not h refl is)) c.begin.ensures.first

pub returns-in_default-clause-opened : goal.returns-in_default-clause-opened
returns-in_default-clause-opened g c = λ told k at. let none = none_found (g.S.StateFolder.seen c.args.folder.now) (c.in_ok-found.ensures.value told) c.in_default.is in absurd (cc (none, at.is))

pub returns-in_err-found-clause-any_moment : goal.returns-in_err-found-clause-any_moment
returns-in_err-found-clause-any_moment g c = λ told rounds checks kept. unchanged (g.met.S.StateFolder.only_now told) (λ x n. kept_found kept n) (c.look.ensures.crash told)

pub returns-in-Err-clause-rightly : goal.returns-in-Err-clause-rightly
returns-in-Err-clause-rightly g c = λ told why is.
    let same : c.in-Err.why ≡ why = cc is in
    not_own c.in-Some.found (some_found (c.in_ok-found.ensures.value told) c.in-Some.is) (subst (λ w. IsDisowned c.args.site.now c.args.identity.now c.args.plan.now.force_root c.in-Some.found w) same c.in-Err.ensures.rightly)

pub returns-in-Ok-clause-closed : goal.returns-in-Ok-clause-closed
returns-in-Ok-clause-closed g c = λ told. on_ok_weaker c.go_on.result (λ same. same ∙ ap (λ (x : Content). x.closed) (c.look.ensures.seen told)) (c.go_on.ensures.closed told)

pub returns-in-Ok-clause-refused : goal.returns-in-Ok-clause-refused
returns-in-Ok-clause-refused g c = λ told why is. c.go_on.ensures.refused told why is ∙ c.look.ensures.seen told

pub returns-in-Ok-clause-rightly : goal.returns-in-Ok-clause-rightly
returns-in-Ok-clause-rightly g c = λ told why is.
    let found = c.in-Some.found in
    let by = subst (λ (x : Content). IsOutdated c.in-Ok.checkpoint x why) (c.look.ensures.seen told) (c.go_on.ensures.rightly told why is) in
    outdated found (some_found (c.in_ok-found.ensures.value told) c.in-Some.is) c.in-Ok.ensures.own (subst (λ (x : Checkpoint). IsOutdated x (g.S.StateFolder.seen c.args.folder.now) why) c.in-Ok.ensures.same by)

pub returns-in-Ok-clause-whole : goal.returns-in-Ok-clause-whole
returns-in-Ok-clause-whole g c = λ told.
    let at = some_found (c.in_ok-found.ensures.value told) c.in-Some.is in
    IfOk-weaker c.go_on.result _ _ (λ o h. opened_whole at h) (opened_here g (goal.at.returns-in-Ok-clause-whole g c).After-go_on told _ at)

pub returns-in_default-clause-whole : goal.returns-in_default-clause-whole
returns-in_default-clause-whole g c = λ told.
    let none = none_found (g.S.StateFolder.seen c.args.folder.now) (c.in_ok-found.ensures.value told) c.in_default.is in
    IfOk-weaker c.begin.result _ _ (λ o h. first_whole none h refl refl) c.begin.ensures.first

pub returns-in_default-clause-begins : goal.returns-in_default-clause-begins
returns-in_default-clause-begins g c = λ told.
    let same = c.look.ensures.seen told in
    let none = none_found (g.S.StateFolder.seen c.args.folder.now) (c.in_ok-found.ensures.value told) c.in_default.is in
    begun_first c.args.site.now.further (g.S.StateFolder.seen c.args.folder.now) (g.S.StateFolder.seen c.look.new.folder) c.begin.result (search rules) none (ap (λ (x : Content). x.report) same) (ap (λ (x : Content). x.closed) same) (c.begin.ensures.empty told) (c.begin.ensures.unclosed told) c.begin.ensures.stands

pub returns-in-Ok-clause-begins : goal.returns-in-Ok-clause-begins
returns-in-Ok-clause-begins g c = λ told.
    IfOk-weaker c.go_on.result _ _ (λ o up. stored c.in-Some.found (some_found (c.in_ok-found.ensures.value told) c.in-Some.is) (taken_stays c.args.identity.now up ∙ ap position c.in-Ok.ensures.same)) c.go_on.ensures.taken

pub returns-in_default-clause-own : goal.returns-in_default-clause-own
returns-in_default-clause-own g c = IfOk-weaker c.begin.result _ _ (λ o h. first_own c.args.site.now c.args.identity.now (ap (λ (x : Opened). x.checkpoint) h)) c.begin.ensures.first

-- it is of the site
owned : (g : given.Over) (c : After-go_on g) → IsOwn c.args.site.now c.in-Ok.checkpoint
owned g c = subst (IsOwn c.args.site.now) (sym c.in-Ok.ensures.same) c.in-Ok.ensures.own

pub returns-in-Ok-clause-own : goal.returns-in-Ok-clause-own
returns-in-Ok-clause-own g c = IfOk-weaker c.go_on.result _ _ (λ o up. taken_own (owned g (goal.at.returns-in-Ok-clause-own g c).After-go_on) up) c.go_on.ensures.taken

pub returns-in_default-clause-stop : goal.returns-in_default-clause-stop
returns-in_default-clause-stop g c =
    let told = IsTrue g.S.StateFolder.told in
    let here = g.S.StateFolder.seen c.args.folder.now in
    let to_open = IsToOpen told c.args.site.now c.args.identity.now c.args.plan.now.create here in
    opens_over (ForFirst c.args.site.now c.args.identity.now (g.S.StateFolder.seen c.look.new.folder)) (ForOpen to_open here) _ (g.S.StateFolder.faults c.look.new.folder) _ c.begin.result (λ it. it) c.in_ok-found.ensures.stop
    (λ why. first_reason told {Two = to_open} c.args.site.now c.args.identity.now here (g.S.StateFolder.seen c.look.new.folder) _ (g.S.StateFolder.faults c.look.new.folder) _ why c.in_ok-found.ensures.stop
    (λ l f. first_to_open {create = c.args.plan.now.create} (λ it. none_found here (c.in_ok-found.ensures.value it) c.in_default.is) (search rules) c.look.ensures.seen f)) c.begin.ensures.stop

pub returns-in-Ok-clause-stop : goal.returns-in-Ok-clause-stop
returns-in-Ok-clause-stop g c =
    let told = IsTrue g.S.StateFolder.told in
    let here = g.S.StateFolder.seen c.args.folder.now in
    let at = (goal.at.returns-in-Ok-clause-stop g c).After-go_on in
    let found = λ (it : told). some_found (c.in_ok-found.ensures.value it) c.in-Some.is in
    let to_open = IsToOpen told c.args.site.now c.args.identity.now c.args.plan.now.create here in
    opens_over (ForPut (IsTakenUp c.args.identity.now c.in-Ok.checkpoint)) (ForOpen to_open here) _ (g.S.StateFolder.faults c.look.new.folder) _ c.go_on.result (λ it. it) c.in_ok-found.ensures.stop
    (λ why. open_reason told {Two = to_open} here _ (g.S.StateFolder.faults c.look.new.folder) _ why c.in_ok-found.ensures.stop
    (λ l up. record { own = taken_own (owned g at) up; begins = λ it. stored c.in-Some.found (found it) (taken_stays c.args.identity.now up ∙ ap position c.in-Ok.ensures.same) })
    (λ it l up. taken_within c.args.identity.now (subst (λ (x : Checkpoint). x.said ≤ x.report.bytes) (sym c.in-Ok.ensures.same) (found it).text.keeps.said) up)) c.go_on.ensures.stop
