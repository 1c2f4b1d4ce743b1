-- The values of dictionaries that a stream reader retains.
use Rattle.std.proofs.Common.{◌≡◌, ◌⊎◌, ℕ, ℤ, List, [], ◌++◌, length, Option, Some, None, Result, Ok, Err, refl, sym, ap, subst, ◌∙◌, inl, inr, append_assoc, append-nil}
use Rattle.std.proofs.lemmas.Bool.{cases_Bool}
use Rattle.std.proofs.lemmas.Bool.Decides.{Decides-int_eq}
use Rattle.std.specs.HashMap.{HashMap, IsUnchanged}
use Rattle.std.specs.Map.{lookup}
use Rattle.std.specs.Ordering.{int_eq}
use Rattle.std.specs.declared.sync.Arc.{Arc}
use Rattle.lower_arrays.specs.Held.{held}
use Rattle.lower_arrays.specs.Layouts.{Layout}
use Rattle.lower_arrays.specs.declared.array.AnyArray.{AnyArray}
use Rattle.ipc_devices.specs.Gives.{going, Gives, GivesInOrder, GivesNothing}
use Rattle.ipc_devices.specs.declared.fault.Fault.{Fault}
use Rattle.ipc_read_flat.specs.Bodies.{array_found, array_under}
use Rattle.ipc_model.specs.Frame.{frame}
use Rattle.ipc_model.specs.Streams.{Header, Known, header_of}
use Rattle.ipc_readers.proofs.Items.{is_message, none_begun}
use Rattle.ipc_readers.specs.ChosenStreams.{Request}
use Rattle.ipc_readers.specs.Frames.{FrameGave}
use Rattle.ipc_readers.specs.KeptValues.{IsHeldBy, KeepsValues, KeptOfBatch, KeptOfBody, KeptOfItem, PutsGiven, PutsMessage, KeepsArrays}
use Rattle.ipc_readers.specs.Streams.{ItemGave}
use Rattle.ipc_readers.specs.declared.read.begun.Frame.TheVariants as frames
use Rattle.ipc_readers.specs.declared.read.stream.reader.Found.{Found}
use Rattle.ipc_readers.specs.declared.read.stream.reader.Found.TheVariants as fronts

-- ---- one message

-- a map that stayed the same has the same arrays
pub same_arrays : {Z S : Type 0} (m n : HashMap ℤ (Arc AnyArray Z) S) → IsUnchanged m n → (id : ℤ) → array_under n (Some id) ≡ array_under m (Some id)
same_arrays m n same id = ap (λ es. array_found (lookup (int_eq id) es)) same

-- A batch whose body was read.
pub kept_of_body : {S : Type 0} (gives : Gives S) (h : Request) (m : Header) (a b : S) (body : List ℕ) (r : Result (Option (List AnyArray)) Fault) (before after : Option ℤ → Layout)
    → length body ≡ m.body → gives a body going b → KeptOfBatch h (record { tag = m.tag; table = m.table; body = length body }) r before after
    → KeptOfBody gives h m a r b before after
kept_of_body gives h m a b body (Ok None) before after size gave kept =
    (body, size, gave, subst (λ (n : ℕ). PutsMessage h (record { tag = m.tag; table = m.table; body = n }) before after) size kept)
kept_of_body gives h m a b body (Ok (Some chunk)) before after size gave kept = kept
kept_of_body gives h m a b body (Err e) before after size gave kept = kept

-- a frame and its body
pub kept_of_item : {S : Type 0} (gives : Gives S) → GivesInOrder gives → (h : Request) (m : Header) (p q metadata : List ℕ) (a b c : S) (before after : Option ℤ → Layout)
    → header_of metadata ≡ Some m → FrameGave gives p a (Ok frames.Message) metadata q b → KeptOfBody gives h m b (Ok None) c before after
    → KeptOfItem gives h p a (Ok fronts.Dictionary) q c before after
kept_of_item gives law h m p q metadata a b c before after opened framed kept =
    let front = framed.bytes in
    let body = kept.0 in (
      none_begun (frame (p ++ (front ++ []))) metadata q [] (framed.holds [] tt),
      record {
        bytes = front ++ body;
        gave = law a front b body going c framed.gave kept.2;
        header = m;
        is = record {
          metadata = metadata;
          body = body;
          framed = λ ys.
              let all : (p ++ (front ++ body)) ++ ys ≡ p ++ (front ++ (body ++ ys)) =
              append_assoc p (front ++ body) ys ∙ ap (λ (l : List ℕ). p ++ l) (append_assoc front body ys) in
              ap frame all ∙ is_message (frame (p ++ (front ++ (body ++ ys)))) metadata q (body ++ ys) (framed.holds (body ++ ys) tt);
          header = opened;
          whole = kept.1;
        };
        puts = kept.3;
      },
    )

-- ---- some messages

-- More bytes are read before and after.
wider : (h : Request) (front bytes behind all : List ℕ) (id : ℤ) (n : ℕ) → all ≡ front ++ (bytes ++ behind) → IsHeldBy h bytes id n → IsHeldBy h all id n
wider h front bytes behind all id n is x = record {
  front = front ++ x.front;
  mid = x.mid;
  behind = x.behind ++ behind;
  among =
      is ∙ ap (λ (l : List ℕ). front ++ (l ++ behind)) x.among
      ∙ ap (λ (l : List ℕ). front ++ l) (append_assoc x.front (x.mid ++ x.behind) behind ∙ ap (λ (l : List ℕ). x.front ++ l) (append_assoc x.mid x.behind behind))
      ∙ sym (append_assoc front x.front (x.mid ++ (x.behind ++ behind)));
  header = x.header;
  is = x.is;
  tag = x.tag;
  values = x.values;
  head = x.head;
  own_buffers = x.own_buffers;
  all_buffers = x.all_buffers;
}

-- More bytes may be read if each id's array is from before, or within some bytes.
widened : (h : Request) (bytes behind all : List ℕ) (id : ℤ) (first before after : Layout) → all ≡ bytes ++ behind → after ≡ before
    → (before ≡ first) ⊎ IsHeldBy h bytes id (held before) → (after ≡ first) ⊎ IsHeldBy h all id (held after)
widened h bytes behind all id first before after is same x = elim x [
  | inl e ↦ inl (same ∙ e)
  | inr y ↦ inr (subst (λ (l : Layout). IsHeldBy h all id (held l)) (sym same) (wider h [] bytes behind all id (held before) is y))
]

-- The array that a dictionary message has set.
put_or_kept : {S : Type 0} (gives : Gives S) (h : Request) (p : List ℕ) (a b : S) (before after : Option ℤ → Layout) (x : PutsGiven gives h p a b before after) (id : ℤ)
    → (after (Some id) ≡ before (Some id)) ⊎ IsHeldBy h (p ++ x.bytes) id (held (after (Some id)))
put_or_kept gives h p a b before after x id = elim (cases_Bool (int_eq x.puts.1.id id)) [
  | inl e ↦ inr (subst (λ (i : ℤ). IsHeldBy h (p ++ x.bytes) i (held (after (Some i)))) ((Decides-int_eq x.puts.1.id id).0 e) (record {
    front = [];
    mid = p ++ x.bytes;
    behind = [];
    among = sym (append-nil (p ++ x.bytes));
    header = x.header;
    is = x.is;
    tag = x.puts.0;
    values = x.puts.1.values;
    head = x.puts.1.head;
    own_buffers = x.puts.1.own_buffers;
    all_buffers = x.puts.1.all_buffers;
  }))
  | inr e ↦ inl (x.puts.1.others id e)
]

-- From state a to b dictionary messages were read after the partial prefix p,
-- and q is the partial prefix then.
pub record KeptTo {S : Type 0} (gives : Gives S) (h : Request) (p : List ℕ) (a : S) (q : List ℕ) (b : S) (before after : Option ℤ → Layout) : Type 0 where
  pub bytes : List ℕ
  pub gave : gives a bytes going b
  pub front : List ℕ
  pub left : p ++ bytes ≡ front ++ q
  pub each : (id : ℤ) → (after (Some id) ≡ before (Some id)) ⊎ IsHeldBy h (p ++ bytes) id (held (after (Some id)))

module _ {S : Type 0} (gives : Gives S) (h : Request) (p : List ℕ) (a : S) (first : Option ℤ → Layout) where
  pub kept_same : GivesNothing gives → KeptTo gives h p a p a first first
  kept_same nothing = record { bytes = []; gave = nothing a; front = []; left = append-nil p; each = λ id. inl refl }

  module _ (law : GivesInOrder gives) (q : List ℕ) (b : S) (before : Option ℤ → Layout) (so_far : KeptTo gives h p a q b first before) where
    pub kept_past : (v : List ℕ) (c : S) (after : Option ℤ → Layout) → KeptOfItem gives h q b (Ok fronts.Dictionary) v c before after
        → KeptTo gives h p a v c first after
    kept_past v c after item =
        let xs = item.1.bytes in
        let all : p ++ (so_far.bytes ++ xs) ≡ (p ++ so_far.bytes) ++ xs = sym (append_assoc p so_far.bytes xs) in
        let behind : p ++ (so_far.bytes ++ xs) ≡ so_far.front ++ (q ++ xs) =
        all ∙ ap (λ (l : List ℕ). l ++ xs) so_far.left ∙ append_assoc so_far.front q xs in
        record {
          bytes = so_far.bytes ++ xs;
          gave = law a so_far.bytes b xs going c so_far.gave item.1.gave;
          front = p ++ (so_far.bytes ++ xs);
          left = sym (ap (λ (l : List ℕ). (p ++ (so_far.bytes ++ xs)) ++ l) item.0 ∙ append-nil (p ++ (so_far.bytes ++ xs)));
          each = λ id. elim (put_or_kept gives h q b c before after item.1 id) [
            | inl e ↦ widened h (p ++ so_far.bytes) xs (p ++ (so_far.bytes ++ xs)) id (first (Some id)) (before (Some id)) (after (Some id)) all e (so_far.each id)
            | inr x ↦ inr (wider h so_far.front (q ++ xs) [] (p ++ (so_far.bytes ++ xs)) id (held (after (Some id)))
                (behind ∙ ap (λ (l : List ℕ). so_far.front ++ l) (sym (append-nil (q ++ xs)))) x)
          ];
        }

    pub kept_out : (k l : Known) (r : Result Found Fault) (v : List ℕ) (c : S) (after : Option ℤ → Layout) → ItemGave gives h k q b r l v c → KeepsArrays before after
        → KeepsValues gives h p a c first after
    kept_out k l r v c after item same =
        let xs = item.run.bytes in
        let all : p ++ (so_far.bytes ++ xs) ≡ (p ++ so_far.bytes) ++ xs = sym (append_assoc p so_far.bytes xs) in
        record {
          bytes = so_far.bytes ++ xs;
          stop = item.stop;
          gave = law a so_far.bytes b xs item.stop c so_far.gave item.run.gave;
          each = λ id. widened h (p ++ so_far.bytes) xs (p ++ (so_far.bytes ++ xs)) id (first (Some id)) (before (Some id)) (after (Some id)) all (same id) (so_far.each id);
        }

    -- another request is the same
    pub same_item : (g : Request) → g ≡ h → (r : Result Found Fault) (v : List ℕ) (c : S) (after : Option ℤ → Layout) → KeptOfItem gives g q b r v c before after
        → KeptOfItem gives h q b r v c before after
    same_item g e r v c after x = subst (λ (y : Request). KeptOfItem gives y q b r v c before after) e x
