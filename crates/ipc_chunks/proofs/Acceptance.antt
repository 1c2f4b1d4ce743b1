-- Columns that are encoded are accepted.
use Rattle.std.proofs.Common.{◌≡◌, List, [], ◌∷◌, length, map, refl, sym, ap, subst, arith}
use Rattle.lower.specs.Normal.{norm}
use Rattle.lower.specs.TypeTrees.{TypeTree}
use Rattle.lower_arrays.specs.Layouts.{Layout, layouts, type_of}
use Rattle.ipc_base.specs.Fitting.{AllFit}
use Rattle.ipc_base.specs.IdTrees.{IdTrees, no_ids, more_ids}
use Rattle.ipc_model.specs.Accepted.{fields_of, types_of}
use Rattle.ipc_model.specs.Offers.{offer_of, values_of}
use Rattle.ipc_model.specs.Writable.{IsWritable}
use Rattle.ipc_chunks.proofs.MessageLengths.{bodies_said, nodes_said}
use Rattle.ipc_chunks.specs.Chunks.{encoded_fields, id_number}
use Rattle.ipc_chunks.specs.Laws.{TakenLaw}

-- the types of the columns
pub types_same : (columns : List Layout) (is : IdTrees) → map (λ c. c.type) (offer_of columns is).columns ≡ map type_of columns
types_same [] is = refl
types_same (l ∷ ls) is = ap (λ (ts : List TypeTree). type_of l ∷ ts) (types_same ls is)

-- as many as ids
pub fit_number : (columns : List Layout) (is : IdTrees) → AllFit (encoded_fields columns) is → length columns ≡ id_number is
fit_number [] no_ids h = refl
fit_number [] (more_ids i is) h = absurd h
fit_number (l ∷ ls) no_ids h = absurd h
fit_number (l ∷ ls) (more_ids i is) h = let rest = fit_number ls is h.1 in omega (arith, rest)

pub taken_law : TakenLaw
taken_law order m after fixed columns is dictionaries encoded e =
    let o = offer_of columns is in
    let places = values_of (layouts columns) is in
    record {
      accepted = record {
        writable = subst (λ (ts : List TypeTree). IsWritable (fields_of ts) [] is) (sym (types_same columns is)) e.writable;
        accepted = record {
          count = counted columns is;
          types = normal_same columns is;
          shared = e.lists.shared;
          nodes = nodes_said places columns e.lengths e.said.short;
          bodies = bodies_said places columns e.lengths e.said.body;
        };
      };
      kept = e.lists.kept;
    }
  where
    counted : (columns : List Layout) (is : IdTrees) → length (offer_of columns is).columns ≡ length (types_of (fields_of (map (λ c. c.type) (offer_of columns is).columns)))
    counted [] is = refl
    counted (l ∷ ls) is = let rest = counted ls is in omega (arith, rest)

    normal_same : (columns : List Layout) (is : IdTrees)
        → map (λ c. norm c.type) (offer_of columns is).columns ≡ map norm (types_of (fields_of (map (λ c. c.type) (offer_of columns is).columns)))
    normal_same [] is = refl
    normal_same (l ∷ ls) is = ap (λ (ts : List TypeTree). norm (type_of l) ∷ ts) (normal_same ls is)
