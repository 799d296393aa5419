use Rattle.std.proofs.Common.{◌∙◌, ◌++◌, ◌∷◌, [], sym, ap, refl, Some, None}
use Rattle.std.proofs.lemmas.List.{append-nil}
use Rattle.std.specs.{Prelude.{cond}, Option.{option_map}}
use Rattle.sha2.specs.Sha256.{sha256}
use Rattle.hex.specs.Hex.{encode_lower}
use Rattle.ocfl_tree.specs.StorageRoot.{file_at}
use Rattle.ocfl_digest.specs.declared.algorithm.Algorithm.TheVariants.{Sha256 as OfSha256}
use Rattle.ocfl_identity.specs.Identity.{digits_of}
use Rattle.ocfl_identity.proofs.Askings.{err_always, file_absent, file_hashed, file_unread, first_all, first_file, first_none}
use Rattle.ocfl_identity.proofs.declared.sum_of_file.Goals as goal

pub returns-in_err-sha256_digits-in-Ok-clause-keeps : goal.returns-in_err-sha256_digits-in-Ok-clause-keeps
returns-in_err-sha256_digits-in-Ok-clause-keeps g c = λ told. (c.in-Ok.ensures.hashes told _ refl).did.tree

pub returns-in_ok-sha256_digits-in-Ok-clause-keeps : goal.returns-in_ok-sha256_digits-in-Ok-clause-keeps
returns-in_ok-sha256_digits-in-Ok-clause-keeps g c = λ told. (c.in-Ok.ensures.hashes told _ refl).did.tree

pub returns-in_ok-sha256_digits-in-Ok-clause-told : goal.returns-in_ok-sha256_digits-in-Ok-clause-told
returns-in_ok-sha256_digits-in-Ok-clause-told g c = λ told root is.
    let h = c.in-Ok.ensures.hashes told root is in
    c.in_ok-sha256_digits-in-Ok.ensures
    ∙ ap (option_map encode_lower) (h.digests.each OfSha256 ∙ ap (λ b. cond b (Some (sha256 h.bytes)) None) c.with-wanted.ensures.added)
    ∙ ap digits_of (sym h.is_file)
    ∙ ap (λ p. digits_of (file_at root p)) (c.in_ok-place.ensures ∙ ap (λ d. d ++ c.args.name.now ∷ []) c.root.ensures)

pub returns-in_err-sha256_digits-in-Ok-clause-unlisted : goal.returns-in_err-sha256_digits-in-Ok-clause-unlisted
returns-in_err-sha256_digits-in-Ok-clause-unlisted g c = λ told. (c.in-Ok.ensures.hashes told _ refl).did.listings_are ∙ append-nil _

pub returns-in_ok-sha256_digits-in-Ok-clause-unlisted : goal.returns-in_ok-sha256_digits-in-Ok-clause-unlisted
returns-in_ok-sha256_digits-in-Ok-clause-unlisted g c = λ told. (c.in-Ok.ensures.hashes told _ refl).did.listings_are ∙ append-nil _

pub returns-in_ok-sha256_digits-in-Ok-clause-opened : goal.returns-in_ok-sha256_digits-in-Ok-clause-opened
returns-in_ok-sha256_digits-in-Ok-clause-opened g c = λ told root is.
    let h = c.in-Ok.ensures.hashes told root is in
    file_hashed root _ _ c.args.name.now _ _ h.bytes (c.in_ok-place.ensures ∙ ap (λ d. d ++ c.args.name.now ∷ []) c.root.ensures) h.is_file h.length_is h.did

pub returns-in-Absent-clause-opened : goal.returns-in-Absent-clause-opened
returns-in-Absent-clause-opened g c = λ told root is.
    file_absent root _ _ c.args.name.now _ _ _ (c.in_ok-place.ensures ∙ ap (λ d. d ++ c.args.name.now ∷ []) c.root.ensures) c.in-Absent.is (c.in-Err.ensures.hashes told root is)

pub returns-in-Device-clause-unread : goal.returns-in-Device-clause-unread
returns-in-Device-clause-unread g c = λ told root is q e.
    file_unread root _ _ c.args.name.now c.in_ok-place.place q _ c.in-Err.stop.cause (c.in_ok-place.ensures ∙ ap (λ d. d ++ c.args.name.now ∷ []) c.root.ensures) c.in-Device.is (cc e) (c.in-Err.ensures.hashes told root is)

pub returns-in_err-place-clause-refused : goal.returns-in_err-place-clause-refused
returns-in_err-place-clause-refused g c = λ told root is. err_always c.from_residual.result (λ why memory. first_none _ _)

pub returns-in_err-sha256_digits-in-Ok-clause-refused : goal.returns-in_err-sha256_digits-in-Ok-clause-refused
returns-in_err-sha256_digits-in-Ok-clause-refused g c = λ told root is.
    let h = c.in-Ok.ensures.hashes told root is in
    err_always c.from_residual-in_err-sha256_digits-in-Ok.result (λ why memory. first_all (file_hashed root _ _ c.args.name.now _ _ h.bytes (c.in_ok-place.ensures ∙ ap (λ d. d ++ c.args.name.now ∷ []) c.root.ensures) h.is_file h.length_is h.did))

pub returns-in-Memory-clause-refused : goal.returns-in-Memory-clause-refused
returns-in-Memory-clause-refused g c = λ told root is memory. first_file root _ _ c.args.name.now _ _ _ c.in-Memory.is (c.in-Err.ensures.hashes told root is)
