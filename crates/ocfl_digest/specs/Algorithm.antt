-- The digest algorithms that are computed, and their names (OCFL 1.1, 3.4 Digests).
use Rattle.std.specs.Prelude.{List, [], ◌∷◌, Option, find, codes}
use Rattle.std.specs.declared.cmp.Ordering.{Ordering}
use Rattle.ocfl_tree.specs.Place.{Text, text_cmp, text_eq}
use Rattle.ocfl_digest.specs.declared.algorithm.Algorithm.{Algorithm}
use Rattle.ocfl_digest.specs.declared.algorithm.Algorithm.TheVariants.{Md5, Sha1, Sha256, Sha512, Sha512_256}

abbrev pub algorithm_name : Algorithm → Text
algorithm_name Md5 = codes "md5"
algorithm_name Sha1 = codes "sha1"
algorithm_name Sha256 = codes "sha256"
algorithm_name Sha512 = codes "sha512"
algorithm_name Sha512_256 = codes "sha512/256"

-- by the names' bytes
abbrev pub algorithm_cmp : Algorithm → Algorithm → Ordering
algorithm_cmp a b = text_cmp (algorithm_name a) (algorithm_name b)

-- ascending by name
abbrev pub supported : List Algorithm
supported = Md5 ∷ Sha1 ∷ Sha256 ∷ Sha512 ∷ Sha512_256 ∷ []

-- the algorithm of a name, capitals counting
abbrev pub algorithm_named : Text → Option Algorithm
algorithm_named t = find (λ a. text_eq (algorithm_name a) t) supported
