-- What calls of a disk do to the joined reports of a cycle.
use Rattle.std.proofs.Common.{◌≡◌, ◌≢◌, ◌⊎◌, inl, inr, ℕ, ◌==◌, ◌&&◌, not, Bool, true, false, List, [], ◌∷◌, ◌++◌, Option, Some, refl, sym, ◌∙◌, ap, subst}
use Rattle.std.specs.Prelude.{OnOk, OnErr, Result, Ok, Err, if◌then◌else◌}
use Rattle.std.specs.Option.{option_map}
use Rattle.std.proofs.lemmas.Bool.{eq-eqb}
use Rattle.ocfl_tree.specs.Place.{Text}
use Rattle.ocfl_disk.specs.Names.{ClosedName, Names, Stored, closed_names, IsNoClosed}
use Rattle.ocfl_disk.specs.PowerCut.{DiskState, IsDisk, AreSynced}
use Rattle.ocfl_disk.specs.Disk.{Calm, ClosesOver, Makes, Writes}
use Rattle.ocfl_disk.specs.declared.state_file.StateFile.TheVariants.{Report}
use Rattle.ocfl_joining.specs.Reports.{Put}
use Rattle.ocfl_join_disk.specs.Shown.{AreDurable, MayLeave, file_if, file_named, joined_in, joined_of, made_of, put_if, text_in}
use Rattle.ocfl_join_disk.specs.Comparing.{found_of}
use Rattle.ocfl_join_disk.specs.Internal.Making.{IsNamed}

pub same_of : (cycle file : ℕ) (old new : ℕ → Text) (names : List ClosedName) → IsNoClosed file names → ((other : ℕ) → other ≢ file → new other ≡ old other)
    → joined_of cycle new names ≡ joined_of cycle old names
same_of cycle file old new [] apart same = refl
same_of cycle file old new (name ∷ names) apart same = λ i. put_if (name.cycle == cycle) (record { whole = name.whole; bytes = same name.file apart.0 i }) (same_of cycle file old new names apart.1 same i)

put_more : (is : Bool) (p : Put) (ps qs : List Put) → put_if is p (ps ++ qs) ≡ put_if is p ps ++ qs
put_more true p ps qs = refl
put_more false p ps qs = refl

put_true : (is : Bool) (p : Put) → is ≡ true → put_if is p [] ≡ p ∷ []
put_true is p e = ap (λ (b : Bool). put_if b p []) e

pub more_of : (cycle : ℕ) (whole : Bool) (file : ℕ) (bytes : ℕ → Text) (names : List ClosedName)
    → joined_of cycle bytes (names ++ (record { cycle = cycle; whole = whole; file = file }) ∷ []) ≡ joined_of cycle bytes names ++ (record { whole = whole; bytes = bytes file }) ∷ []
more_of cycle whole file bytes [] = put_true (cycle == cycle) (record { whole = whole; bytes = bytes file }) (eq-eqb cycle cycle refl)
more_of cycle whole file bytes (name ∷ names) =
    ap (put_if (name.cycle == cycle) (record { whole = name.whole; bytes = bytes name.file })) (more_of cycle whole file bytes names)
    ∙ put_more (name.cycle == cycle) (record { whole = name.whole; bytes = bytes name.file }) (joined_of cycle bytes names) ((record { whole = whole; bytes = bytes file }) ∷ [])

pub same_calm : (cycle : ℕ) (old new : DiskState) → Calm old new → joined_in cycle new.seen ≡ joined_in cycle old.seen
same_calm cycle old new calm = ap (joined_in cycle) calm.seen

pub same_made : (cycle file : ℕ) (old new : DiskState) → Makes Report file old new → joined_in cycle new.seen ≡ joined_in cycle old.seen
same_made cycle file old new makes =
    ap (λ (n : Names). joined_of cycle new.seen.bytes n.closed) makes.names
    ∙ same_of cycle file old.seen.bytes new.seen.bytes old.seen.names.closed makes.nameless.apart.closed makes.others

pub same_written : (cycle file n most : ℕ) (old new : DiskState) → IsDisk old → old.seen.names.report ≡ Some file → Writes file n most old new → joined_in cycle new.seen ≡ joined_in cycle old.seen
same_written cycle file n most old new disk is writes =
    ap (λ (n : Names). joined_of cycle new.seen.bytes n.closed) writes.names
    ∙ same_of cycle file old.seen.bytes new.seen.bytes old.seen.names.closed (disk.report file old.seen is disk.stays).closed writes.others

pub named_over : (cycle : ℕ) (whole : Bool) (file : ℕ) (old new : DiskState) → old.seen.names.report ≡ Some file → ClosesOver cycle whole old new
    → joined_in cycle new.seen ≡ joined_in cycle old.seen ++ (record { whole = whole; bytes = old.seen.bytes file }) ∷ []
named_over cycle whole file old new is closes =
    ap (joined_in cycle) closes.seen
    ∙ ap (λ (n : Option ℕ). joined_of cycle old.seen.bytes (closed_names cycle whole n old.seen.names.closed)) is
    ∙ more_of cycle whole file old.seen.bytes old.seen.names.closed

durable_of : (cycle : ℕ) (d : DiskState) (c : Stored) (names : List ClosedName) → IsDisk d → d.may_leave c → AreSynced d names → joined_of cycle c.bytes names ≡ joined_of cycle d.seen.bytes names
durable_of cycle d c [] disk left synced = refl
durable_of cycle d c (name ∷ names) disk left synced = λ i. put_if (name.cycle == cycle) (record { whole = name.whole; bytes = disk.bytes name.file c synced.0 left i }) (durable_of cycle d c names disk left synced.1 i)

pub are_durable : (cycle : ℕ) (d : DiskState) → IsDisk d → ((c : Stored) → d.may_leave c → c.names ≡ d.seen.names) → AreDurable cycle d
are_durable cycle d disk names c left =
    ap (λ (n : Names). joined_of cycle c.bytes n.closed) (names c left)
    ∙ durable_of cycle d c d.seen.names.closed disk left disk.closed

-- ---- the joined report gets its name

pub on_ok : {T E : Type 0} (r : Result T E) (P Q : Type 0) → (P → Q) → OnOk r P → OnOk r Q
on_ok (Ok v) P Q f p = f p
on_ok (Err e) P Q f p = tt

pub in_ok : {T E : Type 0} (r : Result T E) (P : Type 0) → P → OnOk r P
in_ok (Ok v) P p = p
in_ok (Err e) P p = tt

pub in_err : {T E : Type 0} (r : Result T E) (P : Type 0) → P → OnErr r P
in_err (Ok v) P p = tt
in_err (Err e) P p = p

-- the file that is made has the name of the report
abbrev pub IsAt : {M : Type 0} → (M → ℕ) → Option M → DiskState → Type 0
IsAt {M} number made d = (file : M) × ((made ≡ Some file) × (d.seen.names.report ≡ Some (number file)))

pub is_named : {M : Type 0} (number : M → ℕ) (cycle same : ℕ) (whole : Bool) (made : Option M) (old mid late new : DiskState) → same ≡ cycle → Calm old mid → Calm mid late → IsAt number made mid → ClosesOver same whole late new
    → IsNamed cycle whole old.seen (option_map number made) new.seen
is_named number cycle same whole made old mid late new is first second at closes =
    named_over cycle whole (number at.0) late new (ap (λ (s : Stored). s.names.report) second.seen ∙ at.1.1) (subst (λ (n : ℕ). ClosesOver n whole late new) is closes)
    ∙ ap (λ (s : Stored). joined_in cycle s ++ (record { whole = whole; bytes = s.bytes (number at.0) }) ∷ []) (second.seen ∙ first.seen)
    ∙ ap (λ m. joined_in cycle old.seen ++ (record { whole = whole; bytes = made_of old.seen.bytes (option_map number m) }) ∷ []) (sym at.1.0)

pub named_then : (cycle : ℕ) (whole : Bool) (old : Stored) (made : Option ℕ) (mid new : DiskState) → IsNamed cycle whole old made mid.seen → Calm mid new → IsNamed cycle whole old made new.seen
named_then cycle whole old made mid new named calm = same_calm cycle mid new calm ∙ named

pub may_named : {M : Type 0} (number : M → ℕ) (cycle same : ℕ) (whole : Bool) (made : Option M) (old mid late new : DiskState) (Rest : Type 0) → same ≡ cycle → Calm old mid → Calm mid late → IsAt number made mid → Rest
    → Calm late new ⊎ ClosesOver same whole late new → (joined_in cycle new.seen ≡ joined_in cycle old.seen) ⊎ (IsNamed cycle whole old.seen (option_map number made) new.seen × Rest)
may_named number cycle same whole made old mid late new Rest is first second at rest (inl calm) = inl (same_calm cycle late new calm ∙ same_calm cycle mid late second ∙ same_calm cycle old mid first)
may_named number cycle same whole made old mid late new Rest is first second at rest (inr closes) = inr (is_named number cycle same whole made old mid late new is first second at closes, rest)

-- ---- it is on the disk

pub durable_puts : (cycle : ℕ) (d : DiskState) → AreDurable cycle d → (puts : List Put) → MayLeave d (joined_in cycle) puts → puts ≡ joined_in cycle d.seen
durable_puts cycle d durable puts left = left.1.1 ∙ durable left.0 left.1.0

file_if_same : (b : Bool) (file : ℕ) (other : Option ℕ) (old new : ℕ → Text) → new file ≡ old file → option_map new other ≡ option_map old other → option_map new (file_if b file other) ≡ option_map old (file_if b file other)
file_if_same true file other old new e rest = ap Some e
file_if_same false file other old new e rest = rest

durable_text_of : (cycle : ℕ) (whole : Bool) (d : DiskState) (c : Stored) (names : List ClosedName) → IsDisk d → d.may_leave c → AreSynced d names
    → option_map c.bytes (file_named cycle whole names) ≡ option_map d.seen.bytes (file_named cycle whole names)
durable_text_of cycle whole d c [] disk left synced = refl
durable_text_of cycle whole d c (name ∷ names) disk left synced =
    file_if_same ((name.cycle == cycle) && (if whole then name.whole else not name.whole)) name.file (file_named cycle whole names) d.seen.bytes c.bytes
    (disk.bytes name.file c synced.0 left) (durable_text_of cycle whole d c names disk left synced.1)

pub durable_text : (cycle : ℕ) (whole : Bool) (d : DiskState) → IsDisk d → ((c : Stored) → d.may_leave c → c.names ≡ d.seen.names) → (c : Stored) → d.may_leave c → text_in cycle whole c ≡ text_in cycle whole d.seen
durable_text cycle whole d disk names c left =
    ap (λ (n : Names). option_map c.bytes (file_named cycle whole n.closed)) (names c left)
    ∙ durable_text_of cycle whole d c d.seen.names.closed disk left disk.closed

pub durable_found : (cycle : ℕ) (whole found : Bool) (d : DiskState) → IsDisk d → ((c : Stored) → d.may_leave c → c.names ≡ d.seen.names) → (puts : List Put)
    → MayLeave d (λ s. found_of found whole (text_in cycle whole s)) puts → puts ≡ found_of found whole (text_in cycle whole d.seen)
durable_found cycle whole found d disk names puts left = left.1.1 ∙ ap (found_of found whole) (durable_text cycle whole d disk names left.0 left.1.0)
