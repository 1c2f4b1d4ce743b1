-- The bytes of buffers, and lists that grow.
use Rattle.std.proofs.Common.{◌≡◌, ℕ, ℤ, pos, negsuc, ◌+◌, ◌<◌, ◌≤ℤ◌, ◌<ℤ◌, List, [], ◌∷◌, ◌++◌, map, take, drop, length, refl, ap, sym, ◌∙◌, arith, Some}
use Rattle.std.proofs.lemmas.Int.{ints}
use Rattle.std.proofs.lemmas.List.{take_more, map_push}
use Rattle.std.proofs.lemmas.Option.{get_or_from_slice_get}
use Rattle.std.specs.Prelude.{slice_get}
use Rattle.lower_types.specs.declared.Endianness.{Endianness}
use Rattle.ipc_model.specs.Batches.{Body, Lists, entries_of}
use Rattle.ipc_model.specs.Entries.{Entries, Limit}
use Rattle.ipc_model.specs.Kinds.{Kinds}
use Rattle.ipc_reference.specs.PlainBatches.{columns_of}
use Rattle.ipc_model.specs.Entries.{Part, size, bytes_from, part_at}
use Rattle.ipc_table_views.specs.declared.message.FieldNode.{FieldNode}
use Rattle.ipc_table_views.specs.declared.schema.Buffer.{Buffer}
use Rattle.ipc_reference.specs.PlainEntries.{part_view}
use Rattle.ipc_reference.specs.declared.entries.PlainPart.{PlainPart}

pub bytes_there : (source : List ℕ) (base : ℕ) (o l : ℤ) → pos 0 ≤ℤ o → pos 0 ≤ℤ l → bytes_from source base o l ≡ take (size l) (drop (base + size o) source)
bytes_there source base (pos o) (pos l) h k = refl
bytes_there source base (pos o) (negsuc l) h k = absurd (omega arith)
bytes_there source base (negsuc o) l h k = absurd (omega arith)

pub none_before : (source : List ℕ) (base : ℕ) (o l : ℤ) → o <ℤ pos 0 → bytes_from source base o l ≡ []
none_before source base (pos o) l h = absurd (omega (arith, ints))
none_before source base (negsuc o) (pos l) h = refl
none_before source base (negsuc o) (negsuc l) h = refl

pub none_long : (source : List ℕ) (base : ℕ) (o l : ℤ) → l <ℤ pos 0 → bytes_from source base o l ≡ []
none_long source base o (pos l) h = absurd (omega (arith, ints))
none_long source base (pos o) (negsuc l) h = refl
none_long source base (negsuc o) (negsuc l) h = refl

pub ruleset windows = (bytes_there, none_before, none_long)

pub node_more : (xs ys : List FieldNode) (i : ℕ) (x : FieldNode) → i < length xs → slice_get xs i ≡ Some x → ys ≡ take i xs → ys ++ x ∷ [] ≡ take (i + 1) xs
node_more xs ys i x h e f =
    ap (λ zs. zs ++ x ∷ []) f ∙ ap (λ y. take i xs ++ y ∷ []) (sym (get_or_from_slice_get xs i x x e)) ∙ sym (take_more xs i x h)

pub part_more : (source : List ℕ) (base : ℕ) (bs : List Buffer) (ps : List PlainPart) (i : ℕ) (b : Buffer) (p : PlainPart) → i < length bs → slice_get bs i ≡ Some b
    → part_view p ≡ part_at source base b → map part_view ps ≡ map (part_at source base) (take i bs)
    → map part_view (ps ++ p ∷ []) ≡ map (part_at source base) (take (i + 1) bs)
part_more source base bs ps i b p h e f g =
    map_push part_view ps p ∙ ap (λ zs. zs ++ part_view p ∷ []) g ∙ ap (λ y. map (part_at source base) (take i bs) ++ y ∷ []) f
    ∙ sym (map_push (part_at source base) (take i bs) b)
    ∙ ap (λ y. map (part_at source base) (take i bs ++ y ∷ [])) (sym (get_or_from_slice_get bs i b b e))
    ∙ ap (map (part_at source base)) (sym (take_more bs i b h))

-- the entries that were made are those of the lists
entries_are : (l : Lists) (body : Body) (order : Endianness) (extra : ℕ) (ns : List FieldNode) (ps : List Part) → ns ≡ l.nodes → ps ≡ map (part_at body.source body.base) l.buffers
    → record { nodes = ns; parts = ps; order = order; extra = extra; dictionaries = [] } ≡ entries_of l body order extra []
unfolding entries_of
entries_are l body order extra ns ps e f =
    let made : List FieldNode → List Part → Entries = λ ns' ps'. record { nodes = ns'; parts = ps'; order = order; extra = extra; dictionaries = [] } in
    ap (λ ns'. made ns' ps) e ∙ ap (made l.nodes) f

pub listed_is : (l : Lists) (body : Body) (order : Endianness) (extra : ℕ) (ts : Kinds) (js : List ℕ) (limit : Limit) (ns : List FieldNode) (ps : List Part)
    → ns ≡ l.nodes → ps ≡ map (part_at body.source body.base) l.buffers
    → columns_of (record { nodes = ns; parts = ps; order = order; extra = extra; dictionaries = [] }) body.size ts js limit ≡ columns_of (entries_of l body order extra []) body.size ts js limit
listed_is l body order extra ts js limit ns ps e f = ap (λ s. columns_of s body.size ts js limit) (entries_are l body order extra ns ps e f)
