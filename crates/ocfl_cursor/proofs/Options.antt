-- Clauses on an option, by its two cases.
use Rattle.std.proofs.Common.{◌≡◌, Option, None, Some, Result, Ok, Err, MatchOption, IfSome, IsNone, IfErr, IsErrAnd, sym, subst}

-- what a clause by cases says of a value
pub IfSome-from_cases : {X : Type 0} (r : Option X) (P : Type 0) (Q : X → Type 0) → MatchOption r P Q → IfSome r Q
IfSome-from_cases None P Q h = tt
IfSome-from_cases (Some x) P Q h = h

-- what it says if there is none
pub none_from_cases : {X : Type 0} (r : Option X) (P : Type 0) (Q : X → Type 0) → MatchOption r P Q → IsNone r → P
none_from_cases None P Q h e = h
none_from_cases (Some x) P Q h e = cc

-- an error that `?` passes on is the error of the result
pub passed_on : {A B E : Type 0} (r : Result A E) (error known : E) → IsErrAnd r (λ e. e ≡ error) → r ≡ Err known → ◌≡◌ {A = Result B E} (Err error) (Err known)
passed_on (Ok x) error known h e = absurd h
passed_on (Err y) error known h e = cc

-- and what is so of it is so of the result
pub IfErr-passed : {A E : Type 0} (P : E → Type 0) (r : Result A E) (error : E) → IsErrAnd r (λ e. e ≡ error) → P error → IfErr r P
IfErr-passed P (Ok x) error h p = tt
IfErr-passed P (Err y) error h p = subst P (sym h) p
