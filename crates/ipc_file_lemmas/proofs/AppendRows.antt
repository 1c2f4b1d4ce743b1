-- Each case is computed.
use Rattle.std.proofs.Common.{refl, inl, inr, [], ◌∷◌}
use Rattle.ipc_file_lemmas.specs.Appending.{HaveNegative}
use Rattle.ipc_file_lemmas.specs.AppendRows.{NegativeRows, PlaceRows, block}

pub place_rows : PlaceRows
place_rows = record {
  a_block = refl;
  last_listed = refl;
  first_listed = refl;
  a_dictionary = refl;
  a_body_alone = refl;
  at_the_size = refl;
  behind_the_size = refl;
  greatest_body = refl;
  past_64_bits = refl;
  in_the_head = refl;
  behind_the_head = refl;
}

none : HaveNegative (block 0 0 0 ∷ block 200 192 128 ∷ []) → ⊥
none (inl (inl x)) = x
none (inl (inr (inl x))) = x
none (inl (inr (inr x))) = x
none (inr (inl (inl x))) = x
none (inr (inl (inr (inl x)))) = x
none (inr (inl (inr (inr x)))) = x
none (inr (inr x)) = x

pub negative_rows : NegativeRows
negative_rows = record {
  offset = inl tt;
  metadata = inr (inl tt);
  body = inr (inr tt);
  behind_another = inr (inl (inr (inr tt)));
  none_below = none;
}
