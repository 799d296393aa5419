-- What each change of names and bytes does to the content.
use Rattle.std.proofs.Common.{◌≡◌, ◌≢◌, ◌⊎◌, inl, inr, ℕ, ◌≤◌, Bool, true, false, eqb, List, [], ◌∷◌, ◌++◌, length, max, Option, Some, None, refl, sym, ◌∙◌, subst, ap, arith}
use Rattle.std.proofs.lemmas.Bool.Decides.{eqb_tells}
use Rattle.std.specs.Option.{option_map}
use Rattle.ocfl_state.specs.Content.{Bytes, Closed, Content, with_checkpoint, with_report, moved}
use Rattle.ocfl_state.specs.Crash.{Begins, MayPut, MayMove, MayTear as MayTearContent}
use Rattle.ocfl_disk.specs.Names.{ClosedName, Names, Stored, report_of, closed_of, content_of, IsNoClosed, IsApart, put_over, close_over, closed_names}
use Rattle.ocfl_disk.specs.PowerCut.{MayTear, MayMake, MayDrop, MayPutOver, MayCloseOver}
use Rattle.ocfl_disk.specs.declared.state_file.StateFile.TheVariants.{NewCheckpoint, Report}

-- these bytes are others in one file alone
abbrev pub AreBut : ℕ → (ℕ → Bytes) → (ℕ → Bytes) → Type 0
AreBut file other bytes = (n : ℕ) → n ≢ file → other n ≡ bytes n

same_checkpoint : (file : ℕ) (other bytes : ℕ → Bytes) (name : Option ℕ) → AreBut file other bytes → name ≢ Some file → option_map other name ≡ option_map bytes name
same_checkpoint file other bytes None but apart = refl
same_checkpoint file other bytes (Some n) but apart = ap Some (but n (λ is. apart (ap Some is)))

same_report : (file : ℕ) (other bytes : ℕ → Bytes) (name : Option ℕ) → AreBut file other bytes → name ≢ Some file → report_of other name ≡ report_of bytes name
same_report file other bytes None but apart = refl
same_report file other bytes (Some n) but apart = but n (λ is. apart (ap Some is))

same_closed : (file : ℕ) (other bytes : ℕ → Bytes) (names : List ClosedName) → AreBut file other bytes → IsNoClosed file names → closed_of other names ≡ closed_of bytes names
same_closed file other bytes [] but apart = refl
same_closed file other bytes (name ∷ names) but apart = λ i. (record { cycle = name.cycle; whole = name.whole; report = but name.file apart.0 i }) ∷ same_closed file other bytes names but apart.1 i

-- the content of these names and bytes
abbrev content_at : (ℕ → Bytes) → Names → Content
content_at bytes names = content_of (record { names = names; bytes = bytes })

-- a file that is neither checkpoint nor closed report has other bytes
apart_from : (file : ℕ) (other bytes : ℕ → Bytes) (names : Names) → AreBut file other bytes → IsApart file names → content_at other names ≡ with_report (report_of other names.report) (content_at bytes names)
apart_from file other bytes names but apart = λ i. record {
  checkpoint = same_checkpoint file other bytes names.checkpoint but apart.checkpoint i;
  report = report_of other names.report;
  closed = same_closed file other bytes names.closed but apart.closed i;
}

-- the same of one that is not the report either
pub unseen : (file : ℕ) (other bytes : ℕ → Bytes) (names : Names) → AreBut file other bytes → IsApart file names → names.report ≢ Some file → content_at other names ≡ content_at bytes names
unseen file other bytes names but apart no_report = λ i. record {
  checkpoint = same_checkpoint file other bytes names.checkpoint but apart.checkpoint i;
  report = same_report file other bytes names.report but no_report i;
  closed = same_closed file other bytes names.closed but apart.closed i;
}

pub drop_unseen : (d c : Stored) → MayDrop d c → content_of c ≡ content_of d
drop_unseen d c (inl is) = ap content_of is
drop_unseen d c (inr is) = ap content_of is

pub tear_unseen : (file n most : ℕ) (d c : Stored) → MayTear file n most d c → IsApart file d.names → d.names.report ≢ Some file → content_of c ≡ content_of d
tear_unseen file n most d c torn apart no_report = ap (content_at c.bytes) torn.names ∙ unseen file c.bytes d.bytes d.names torn.others apart no_report

pub make_new_unseen : (file : ℕ) (shown : Names) (d c : Stored) → MayMake NewCheckpoint file shown d c → content_of c ≡ content_of d
make_new_unseen file shown d c made = by made.names
  where
    same : content_at c.bytes d.names ≡ content_of d
    same = unseen file c.bytes d.bytes d.names made.others made.nameless.apart made.nameless.report

    by : (c.names ≡ d.names) ⊎ ((d.names.beside ≡ shown.beside) × (c.names ≡ record d.names { beside = Some file })) → content_of c ≡ content_of d
    by (inl is) = ap (content_at c.bytes) is ∙ same
    by (inr is) = ap (content_at c.bytes) is.1 ∙ same

-- where reads showed no report
pub make_report_unseen : (file : ℕ) (shown : Names) (d c : Stored) → shown.report ≡ None → MayMake Report file shown d c → content_of c ≡ content_of d
make_report_unseen file shown d c none made = by made.names
  where
    same : content_at c.bytes d.names ≡ content_of d
    same = unseen file c.bytes d.bytes d.names made.others made.nameless.apart made.nameless.report

    empty : d.names.report ≡ None → content_at c.bytes (record d.names { report = Some file }) ≡ content_at c.bytes d.names
    empty is = λ i. with_report ((made.empty ∙ sym (ap (report_of c.bytes) is)) i) (content_at c.bytes d.names)

    by : (c.names ≡ d.names) ⊎ ((d.names.report ≡ shown.report) × (c.names ≡ record d.names { report = Some file })) → content_of c ≡ content_of d
    by (inl is) = ap (content_at c.bytes) is ∙ same
    by (inr is) = ap (content_at c.bytes) is.1 ∙ empty (is.0 ∙ none) ∙ same

pub put_is : (file : ℕ) (bytes : Bytes) (d : Stored) → d.names.beside ≡ Some file → d.bytes file ≡ bytes → content_of (put_over d) ≡ with_checkpoint bytes (content_of d)
put_is file bytes d is are = λ i. record {
  checkpoint = (ap (option_map d.bytes) is ∙ ap Some are) i;
  report = report_of d.bytes d.names.report;
  closed = closed_of d.bytes d.names.closed;
}

pub may_put_over : (file : ℕ) (bytes : Bytes) (shown : Names) (d c : Stored) → shown.beside ≡ Some file → d.bytes file ≡ bytes → MayPutOver shown d c → MayPut bytes (content_of d) (content_of c)
may_put_over file bytes shown d c is are (inl same) = inl (ap content_of same)
may_put_over file bytes shown d c is are (inr put) = inr (ap content_of put.1 ∙ put_is file bytes d (put.0 ∙ is) are)

closed_more : (bytes : ℕ → Bytes) (names : List ClosedName) (name : ClosedName) → closed_of bytes (names ++ name ∷ []) ≡ closed_of bytes names ++ (record { cycle = name.cycle; whole = name.whole; report = bytes name.file }) ∷ []
closed_more bytes [] name = refl
closed_more bytes (n ∷ names) name = ap (λ (l : List Closed). (record { cycle = n.cycle; whole = n.whole; report = bytes n.file }) ∷ l) (closed_more bytes names name)

pub close_is : (cycle : ℕ) (whole : Bool) (file : ℕ) (d : Stored) → d.names.report ≡ Some file → content_of (close_over cycle whole d) ≡ moved cycle whole (content_of d)
close_is cycle whole file d is = λ i. record {
  checkpoint = option_map d.bytes d.names.checkpoint;
  report = [];
  closed = closed i;
}
  where
    one : Bytes → Closed
    one report = record { cycle = cycle; whole = whole; report = report }

    closed : closed_of d.bytes (closed_names cycle whole d.names.report d.names.closed) ≡ closed_of d.bytes d.names.closed ++ one (report_of d.bytes d.names.report) ∷ []
    closed = ap (λ (name : Option ℕ). closed_of d.bytes (closed_names cycle whole name d.names.closed)) is
        ∙ closed_more d.bytes d.names.closed (record { cycle = cycle; whole = whole; file = file })
        ∙ ap (λ (name : Option ℕ). closed_of d.bytes d.names.closed ++ one (report_of d.bytes name) ∷ []) (sym is)

pub may_close_over : (cycle : ℕ) (whole : Bool) (file : ℕ) (shown : Names) (d c : Stored) → shown.report ≡ Some file → MayCloseOver cycle whole shown d c → MayMove cycle whole (content_of d) (content_of c)
may_close_over cycle whole file shown d c is (inl same) = inl (ap content_of same)
may_close_over cycle whole file shown d c is (inr closed) = inr (ap content_of closed.1 ∙ close_is cycle whole file d (closed.0 ∙ is))

report_front : (file n most : ℕ) (d c : Stored) (name : Option ℕ) → MayTear file n most d c → (text : Bytes) → length text ≤ n → Begins text (report_of d.bytes name) → Begins text (report_of c.bytes name)
report_front file n most d c None torn text le begins = begins
report_front file n most d c (Some m) torn text le begins = by (eqb_tells m file)
  where
    by : ((eqb m file ≡ true) × (m ≡ file)) ⊎ ((eqb m file ≡ false) × (m ≢ file)) → Begins text (c.bytes m)
    by (inl is) = subst (λ (k : ℕ). Begins text (c.bytes k)) (sym is.1) (torn.front text le (subst (λ (k : ℕ). Begins text (d.bytes k)) is.1 begins))
    by (inr not) = subst (Begins text) (sym (torn.others m not.1)) begins

report_length : (file n most : ℕ) (d c : Stored) (name : Option ℕ) → MayTear file n most d c → length (report_of c.bytes name) ≤ max (length (report_of d.bytes name)) most
report_length file n most d c None torn = omega arith
report_length file n most d c (Some m) torn = by (eqb_tells m file)
  where
    by : ((eqb m file ≡ true) × (m ≡ file)) ⊎ ((eqb m file ≡ false) × (m ≢ file)) → length (c.bytes m) ≤ max (length (d.bytes m)) most
    by (inl is) = subst (λ (k : ℕ). length (c.bytes k) ≤ max (length (d.bytes k)) most) (sym is.1) torn.no_longer
    by (inr not) = omega (arith, ap length (torn.others m not.1))

pub tear_report : (file n most : ℕ) (d c : Stored) → MayTear file n most d c → IsApart file d.names → MayTearContent n most (content_of d) (content_of c)
tear_report file n most d c torn apart = record {
  checkpoint = ap (λ (names : Names). option_map c.bytes names.checkpoint) torn.names ∙ same_checkpoint file c.bytes d.bytes d.names.checkpoint torn.others apart.checkpoint;
  closed = ap (λ (names : Names). closed_of c.bytes names.closed) torn.names ∙ same_closed file c.bytes d.bytes d.names.closed torn.others apart.closed;
  front = λ text le begins. subst (λ (names : Names). Begins text (report_of c.bytes names.report)) (sym torn.names) (report_front file n most d c d.names.report torn text le begins);
  no_longer = subst (λ (names : Names). length (report_of c.bytes names.report) ≤ max (length (report_of d.bytes d.names.report)) most) (sym torn.names) (report_length file n most d c d.names.report torn);
}

-- the report's file alone has other bytes
pub written_report : (file : ℕ) (s t : Stored) → t.names ≡ s.names → AreBut file t.bytes s.bytes → IsApart file s.names → s.names.report ≡ Some file → content_of t ≡ with_report (t.bytes file) (content_of s)
written_report file s t names but apart is = ap (content_at t.bytes) names ∙ apart_from file t.bytes s.bytes s.names but apart ∙ ap (λ (name : Option ℕ). with_report (report_of t.bytes name) (content_of s)) is
