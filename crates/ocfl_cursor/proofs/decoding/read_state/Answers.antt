use Rattle.std.proofs.Common.{[], ◌∷◌, ◌++◌, sym, ap, ◌∙◌}
use Rattle.ocfl_cursor.proofs.Texts.{text_eq-same}
use Rattle.ocfl_cursor.proofs.decoding.read_state.Goals as goal

pub returns-then-is_bytes-clause-state : goal.returns-then-is_bytes-clause-state
returns-then-is_bytes-clause-state c = record {
  short = tt;
  is = c.in-Some.ensures.found ∙ ap (λ t. t ++ 10 ∷ []) (text_eq-same _ _ (sym c.is_bytes.ensures ∙ c.if-is_bytes.true));
}

pub returns-then-is_bytes-2-clause-state : goal.returns-then-is_bytes-2-clause-state
returns-then-is_bytes-2-clause-state c = record {
  short = tt;
  is = c.in-Some.ensures.found ∙ ap (λ t. t ++ 10 ∷ []) (text_eq-same _ _ (sym c.is_bytes-2.ensures ∙ c.if-is_bytes-2.true));
}
