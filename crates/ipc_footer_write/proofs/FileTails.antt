-- What a file means that ends with a footer.
use Rattle.std.proofs.Common.{◌≡◌, ℕ, ◌+◌, ◌-◌, ◌^◌, ◌<◌, ◌≤◌, true, false, List, ◌++◌, length, take, drop, Some, sym, ap, ◌∙◌, arith, nat_lt, bytes_eq, refl, append_assoc, length-append}
use Rattle.std.specs.Int.{w32, from_le_bytes, to_le_bytes}
use Rattle.std.proofs.lemmas.List.{drop_at, take_at}
use Rattle.std.proofs.lemmas.Nat.{from_le_bytes-to_le_bytes_4}
use Rattle.std.proofs.lemmas.Slice.Eq.{bytes_eq-Decides}
use Rattle.ipc_model.specs.Files.{FileMetadata, last, magic, metadata_of}
use Rattle.ipc_footer_write.specs.Footers.{FooterLaw, HasFooter, MeansFooter, tail_of}

below : (n m : ℕ) → n < m → nat_lt n m ≡ true
below n m h = search arith

not-below : (n m : ℕ) → m ≤ n → nat_lt n m ≡ false
not-below n m h = search arith

same-bytes : (xs ys : List ℕ) → xs ≡ ys → bytes_eq xs ys ≡ true
same-bytes xs ys h = (bytes_eq-Decides xs ys).1 h

-- the last bytes
last-of : (bytes front back : List ℕ) (n : ℕ) → bytes ≡ front ++ back → length back ≡ n → last n bytes ≡ back
last-of bytes front back n is long =
    let e : length bytes - n ≡ length front = omega (arith, ap length is, length-append front back, long) in
    ap (λ k. drop k bytes) e ∙ ap (drop (length front)) is ∙ drop_at front back (length front) refl

length-word : (n : ℕ) → length (to_le_bytes w32 n) ≡ 4
length-word n = refl

module _ (bytes footer : List ℕ) (has : HasFooter bytes footer) (short : length footer < 2 ^ 31) where
  length-tail : length (tail_of footer) ≡ 10
  length-tail = refl

  length-end : length (footer ++ tail_of footer) ≡ length footer + 10
  length-end = omega (arith, length-append footer (tail_of footer), length-tail)

  last-ten : last 10 bytes ≡ tail_of footer
  last-ten = last-of bytes (has.front ++ footer) (tail_of footer) 10 (has.bytes_are ∙ sym (append_assoc has.front footer (tail_of footer))) length-tail

  last-six : last 6 bytes ≡ magic
  last-six =
      last-of bytes ((has.front ++ footer) ++ to_le_bytes w32 (length footer)) magic 6
      (has.bytes_are ∙ sym (append_assoc has.front footer (tail_of footer)) ∙ sym (append_assoc (has.front ++ footer) (to_le_bytes w32 (length footer)) magic)) refl

  stated : from_le_bytes w32 (take 4 (last 10 bytes)) ≡ length footer
  stated =
      ap (λ xs. from_le_bytes w32 (take 4 xs)) last-ten
      ∙ ap (from_le_bytes w32) (take_at (to_le_bytes w32 (length footer)) magic 4 (length-word (length footer)))
      ∙ from_le_bytes-to_le_bytes_4 (length footer) (omega (arith, short))

  stands : take (length footer) (last (length footer + 10) bytes) ≡ footer
  stands =
      ap (take (length footer)) (last-of bytes has.front (footer ++ tail_of footer) (length footer + 10) has.bytes_are length-end)
      ∙ take_at footer (tail_of footer) (length footer) refl

  pub metadata-is : (file : ℕ → FileMetadata) → MeansFooter footer file → metadata_of bytes ≡ Some (file (length bytes))
  unfolding metadata_of
  metadata-is file means =
      let long : length footer + 10 ≤ length bytes = omega (arith, ap length has.bytes_are, length-append has.front (footer ++ tail_of footer), length-end) in
      rw (
        not-below (length bytes) 10 (omega (arith, long)),
        same-bytes (take 6 bytes) magic has.head,
        same-bytes (last 6 bytes) magic last-six,
        stated,
        below (length footer) (2 ^ 31) short,
        not-below (length bytes) (length footer + 10) long,
        stands,
      )
      (means.reads (length bytes))

pub law : FooterLaw
law bytes footer file has short means = metadata-is bytes footer has short file means
