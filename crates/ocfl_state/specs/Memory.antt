-- What a state folder in memory keeps, has kept, and may lose.
use Rattle.std.specs.Prelude.{◌≡◌, ◌⊎◌, ℕ, ◌≤◌, Bool, List, [], ◌∷◌, ◌++◌, length, take, drop, max, min, Option, Some, None, refl, slice_get, replicate, if◌then◌else◌}
use mathlib.Core.Logic.{inl, inr}
use Rattle.std.proofs.{Common.{sym}, lemmas.List.{take-append-drop}, Math.Nat.{le-max_right}}
use Rattle.ocfl_state.specs.Content.{Bytes, Content, with_checkpoint, with_report, moved}
use Rattle.ocfl_state.specs.Crash.{Begins, Outcomes}

-- a content, how many bytes of its report are on the disk, and how many it had since at most
pub record Kept : Type 0 where
  pub content : Content
  pub synced : ℕ
  pub most : ℕ

-- what it keeps, has kept, oldest first, which call is made to fail, and how many did
pub record History : Type 0 where
  pub now : Kept
  pub past : List Kept
  pub call : Option ℕ
  pub failures : ℕ

abbrev pub kept_whole : Content → Kept
kept_whole c = record { content = c; synced = length c.report; most = 0 }

abbrev pub fresh : Content → History
fresh c = record { now = kept_whole c; past = []; call = None; failures = 0 }

abbrev pub after_put : Bytes → Kept → Kept
after_put bytes k = record k { content = with_checkpoint bytes k.content }

abbrev pub after_append : Bytes → Kept → Kept
after_append bytes k = record k { content = with_report (k.content.report ++ bytes) k.content }

abbrev pub after_cut : ℕ → Kept → Kept
after_cut n k = record {
  content = with_report (take n k.content.report) k.content;
  synced = min k.synced n;
  most = max k.most (length k.content.report);
}

abbrev pub after_close : ℕ → Bool → Kept → Kept
after_close cycle whole k = kept_whole (moved cycle whole k.content)

-- What a crash may leave: all but those bytes of the report that are not on the disk. In their place
-- are any bytes, no more than there were.
pub record IsImage (k : Kept) (c : Content) : Type 0 where
  pub checkpoint : c.checkpoint ≡ k.content.checkpoint
  pub closed : c.closed ≡ k.content.closed
  pub synced : Begins (take k.synced k.content.report) c.report
  pub no_longer : length c.report ≤ max k.most (length k.content.report)

-- a crash while one of these was kept may have left it
abbrev pub IsPast : List Kept → Outcomes
IsPast [] c = ⊥
IsPast (k ∷ past) c = IsImage k c ⊎ IsPast past c

-- the next one is kept, and what was kept is past
abbrev pub then_keeps : Kept → History → History
then_keeps k h = record h { now = k; past = h.past ++ h.now ∷ [] }

abbrev pub images : History → Outcomes
images h c = IsImage h.now c

abbrev pub images_since : History → ℕ → Outcomes
images_since h t c = IsImage h.now c ⊎ IsPast (drop t h.past) c

-- what was kept after n changes, if there were as many
abbrev pub kept_after : History → ℕ → Option Kept
kept_after h changes = slice_get (h.past ++ h.now ∷ []) changes

abbrev pub or_zeros : Bool → Bytes → Bytes
or_zeros zeroed bytes = if zeroed then replicate (length bytes) 0 else bytes

-- the report of which at most n bytes stay that were not on the disk, or as many zeros
abbrev pub torn : Kept → ℕ → Bool → Bytes
torn k left zeroed = take k.synced k.content.report ++ or_zeros zeroed (take left (drop k.synced k.content.report))

abbrev pub after_crash : ℕ → Bool → Kept → Content
after_crash left zeroed k = with_report (torn k left zeroed) k.content

-- a folder that a crash after these changes leaves, of which all is on the disk
pub record IsCrashed (h : History) (changes left : ℕ) (zeroed : Bool) (folder : History) : Type 0 where
  pub kept : Kept
  pub was : kept_after h changes ≡ Some kept
  pub is : folder ≡ fresh (after_crash left zeroed kept)
  pub image : IsImage kept (after_crash left zeroed kept)

-- The laws of the trait: what reads show is an image, and since the last moment there is no other.
pub stays : (h : History) → images h h.now.content
stays h = record {
  checkpoint = refl;
  closed = refl;
  synced = (drop h.now.synced h.now.content.report, sym (take-append-drop h.now.synced h.now.content.report));
  no_longer = le-max_right h.now.most (length h.now.content.report);
}

none_past : (past : List Kept) (c : Content) → IsPast (drop (length past) past) c → ⊥
none_past [] c was = was
none_past (k ∷ past) c was = none_past past c was

pub only_now : (h : History) (c : Content) → images_since h (length h.past) c → images h c
only_now h c (inl now) = now
only_now h c (inr was) = absurd (none_past h.past c was)
