-- A vector that texts are appended to, one after the other, as long as there is room.
use Rattle.std.proofs.Common.{◌≡◌, ℕ, ◌+◌, ◌<◌, ◌≤◌, [], ◌∷◌, ◌++◌, Result, Ok, Err, codes, length, ap, append_assoc, length-append, arith}
use Rattle.std.proofs.Transfers.{starts_with_of_append, starts_with_trans}
use Rattle.std.specs.{Prelude.{OnErr, Vec, vec_len, vec_capacity}, Io.{StartsWith}, declared.alloc.Global.{Global}}
use Rattle.ocfl_tree.specs.Place.{Text}
use Rattle.ocfl_report.specs.{Line.{Line}, Text.{code_text, place_text, escape, line_text}}

-- n bytes were appended
pub record Grown (n : ℕ) (a b : Vec ℕ Global) : Type 0 where
  pub begins : StartsWith b.items a.items
  pub len : vec_len b ≡ vec_len a + n
  pub capacity : vec_capacity a ≤ vec_capacity b

-- those of a text
pub grown_by : (t : Text) (a b : Vec ℕ Global) → b.items ≡ a.items ++ t → vec_capacity a ≤ vec_capacity b → Grown (length t) a b
grown_by t a b e more = record {
  begins = starts_with_of_append b.items a.items t e;
  len = omega (arith, a.ok.0, b.ok.0, ap length e, length-append a.items t);
  capacity = more;
}

-- and then those of another one
pub grown_on : (n : ℕ) (t : Text) (a b c : Vec ℕ Global) → Grown n a b → c.items ≡ b.items ++ t → vec_capacity b ≤ vec_capacity c → Grown (n + length t) a c
grown_on n t a b c h e more =
    let k = grown_by t b c e more in
    record {
      begins = starts_with_trans c.items b.items a.items k.begins h.begins;
      len = omega (arith, h.len, k.len);
      capacity = omega (arith, h.capacity, more);
    }

-- where a text found too little room, there was too little for all
pub no_room : (n m all : ℕ) (a b : Vec ℕ Global) → Grown n a b → vec_capacity b < vec_len b + m → n + m ≤ all → vec_capacity a < vec_len a + all
no_room n m all a b h short part = omega (arith, h.len, h.capacity)

-- and so where a byte found none
pub no_room_for_byte : (n all : ℕ) (a b : Vec ℕ Global) → Grown n a b → vec_capacity b ≤ vec_len b → n + 1 ≤ all → vec_capacity a < vec_len a + all
no_room_for_byte n all a b h short part = omega (arith, h.len, h.capacity)

pub no_room_at_first : (n m all : ℕ) (a : Vec ℕ Global) → n ≡ m → vec_capacity a < vec_len a + n → m ≤ all → vec_capacity a < vec_len a + all
no_room_at_first n m all a same short part = omega arith

-- a text of one byte
pub no_room_for_one : (t : Text) (a : Vec ℕ Global) → t ≡ codes "." → vec_capacity a ≤ vec_len a → vec_capacity a < vec_len a + length t
no_room_for_one t a e short = omega (arith, ap length e)

-- so where a piece of a text found too little, what was put being a beginning of the whole
pub no_room_within : (a b : Vec ℕ Global) (piece rest whole : Text) → b.items ++ (piece ++ rest) ≡ a.items ++ whole → vec_capacity a ≤ vec_capacity b
    → vec_capacity b < vec_len b + length piece → vec_capacity a < vec_len a + length whole
no_room_within a b piece rest whole e more short =
    omega (arith, a.ok.0, b.ok.0, ap length e, length-append b.items (piece ++ rest), length-append piece rest, length-append a.items whole)

pub at_least : (m n k : ℕ) → m ≤ n → n ≤ k → m ≤ k
at_least m n k h l = omega arith

-- what holds anyway holds of a refusal
pub if_refused : {T E P : Type 0} (r : Result T E) → P → OnErr r P
if_refused (Ok x) p = tt
if_refused (Err e) p = p

-- ---- a line

line_length : (l : Line) → length (line_text l) ≡ length (code_text l.code) + (length (place_text l.place) + (length (escape l.detail) + 3))
line_length l =
    let code = code_text l.code in
    let place = place_text l.place in
    let detail = escape l.detail in
    omega (arith, length-append (code ++ 9 ∷ place ++ 9 ∷ detail) (10 ∷ []), length-append (code ++ 9 ∷ place) (9 ∷ detail), length-append code (9 ∷ place))

pub code_within : (l : Line) → length (code_text l.code) ≤ length (line_text l)
code_within l = omega (arith, line_length l)

pub tab_within : (l : Line) → length (code_text l.code) + 1 ≤ length (line_text l)
tab_within l = omega (arith, line_length l)

pub place_within : (l : Line) → length (code_text l.code) + 1 + length (place_text l.place) ≤ length (line_text l)
place_within l = omega (arith, line_length l)

pub second_tab_within : (l : Line) → length (code_text l.code) + 1 + length (place_text l.place) + 1 ≤ length (line_text l)
second_tab_within l = omega (arith, line_length l)

pub detail_within : (l : Line) → length (code_text l.code) + 1 + length (place_text l.place) + 1 + length (escape l.detail) ≤ length (line_text l)
detail_within l = omega (arith, line_length l)

pub feed_within : (l : Line) → length (code_text l.code) + 1 + length (place_text l.place) + 1 + length (escape l.detail) + 1 ≤ length (line_text l)
feed_within l = omega (arith, line_length l)

-- its parts, one after the other, are its text
pub line_put : (l : Line) (t0 t1 t2 t3 t4 t5 t6 : Text) → t1 ≡ t0 ++ code_text l.code → t2 ≡ t1 ++ 9 ∷ [] → t3 ≡ t2 ++ place_text l.place → t4 ≡ t3 ++ 9 ∷ []
    → t5 ≡ t4 ++ escape l.detail → t6 ≡ t5 ++ 10 ∷ [] → t6 ≡ t0 ++ line_text l
line_put l t0 t1 t2 t3 t4 t5 t6 e1 e2 e3 e4 e5 e6 = rw (e6, e5, e4, e3, e2, e1) (simp append_assoc)
