-- What is known of a file whose metadata have a meaning.
use Rattle.std.proofs.Common.{◌≡◌, ℕ, ◌+◌, ◌^◌, ◌≤◌, Bool, true, false, List, length, take, Option, None, Some, refl, sym, ap, arith, nat_lt, bytes_eq, if◌then◌else◌, ◌&&◌}
use Rattle.std.specs.Int.{w32, from_le_bytes}
use Rattle.std.proofs.lemmas.Slice.Eq.{bytes_eq-Decides}
use Rattle.ipc_table_views.specs.FileSlots.{footer_schema, footer_dictionaries, footer_record_batches, footer_custom_metadata}
use Rattle.ipc_table_views.specs.Spot.{Spot}
use Rattle.ipc_table_views.specs.Tables.{root_at}
use Rattle.ipc_model.proofs.Given.{given-some, some-same}
use Rattle.ipc_model.specs.Files.{FileMetadata, footer_at, footer_of_length, last, magic, metadata_of}
use Rattle.ipc_model.specs.Schemas.{given, made, pairs_at, present, schema_at}

isnt-below : (n m : ℕ) → nat_lt n m ≡ false → m ≤ n
isnt-below n m h = search arith

-- A footer gives the size that it is passed.
size-said : (size : ℕ) (t : Spot) (m : FileMetadata) → footer_at size t ≡ Some m → m.size ≡ size
unfolding footer_at
size-said size t m e =
    let blocks = given-some (present (footer_record_batches t)) _ m e in
    let schema = given-some (present (footer_schema t)) _ m blocks.2 in
    let read = given-some (schema_at schema.0) _ m schema.2 in
    let dictionaries = given-some (made (footer_dictionaries t)) _ m read.2 in
    let vector = given-some (made (footer_custom_metadata t)) _ m dictionaries.2 in
    let pairs = given-some (pairs_at vector.0) _ m vector.2 in
    sym (ap (λ (x : FileMetadata). x.size) (some-same _ m pairs.2))

whole-footer : (t u : Bool) (o : Option Spot) (size : ℕ) (m : FileMetadata) → (if t then (if u then None else given o (footer_at size)) else None) ≡ Some m → m.size ≡ size
whole-footer true true o size m e = absurd cc
whole-footer true false o size m e = let root = given-some o (footer_at size) m e in size-said size root.0 m root.2
whole-footer false u o size m e = absurd cc

-- a file of some metadata
pub record IsHeaded (bytes : List ℕ) (m : FileMetadata) : Type 0 where
  pub size : m.size ≡ length bytes
  pub long : 10 ≤ length bytes
  pub head : take 6 bytes ≡ magic

parts : (a b c : Bool) (o : Option FileMetadata) (m : FileMetadata) → (if a then None else if b && c then o else None) ≡ Some m → (a ≡ false) × (b ≡ true) × (o ≡ Some m)
parts true b c o m e = absurd cc
parts false false c o m e = absurd cc
parts false true false o m e = absurd cc
parts false true true o m e = (refl, refl, e)

pub is_headed : (bytes : List ℕ) (m : FileMetadata) → metadata_of bytes ≡ Some m → IsHeaded bytes m
unfolding metadata_of
is_headed bytes m e =
    let n = from_le_bytes w32 (take 4 (last 10 bytes)) in
    let all = parts (nat_lt (length bytes) 10) (bytes_eq (take 6 bytes) magic) (bytes_eq (last 6 bytes) magic) (footer_of_length bytes n) m e in
    record {
      size = whole-footer (nat_lt n (2 ^ 31)) (nat_lt (length bytes) (n + 10)) (made (root_at (take n (last (n + 10) bytes)))) (length bytes) m all.2;
      long = isnt-below (length bytes) 10 all.0;
      head = (bytes_eq-Decides (take 6 bytes) magic).0 all.1;
    }
