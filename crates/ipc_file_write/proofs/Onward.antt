-- What bytes that are written leave of a memory.
use Rattle.std.proofs.Common.{◌≡◌, ℕ, ◌-◌, ◌≤◌, List, ◌++◌, length, take, sym, ap, ◌∙◌, arith, append-nil, length-drop, length-take-le}
use Rattle.std.proofs.lemmas.List.{take-append-le, take-take, take_all}
use Rattle.ipc_devices.specs.Device.{Memory, WritesOver, after, before}
use Rattle.ipc_file_lemmas.proofs.Appending.{stay_law}
use Rattle.ipc_file_lemmas.specs.Appending.{goes_on}
use Rattle.ipc_file_write.specs.AppendLaws.{NoMore, Onward, OnwardBothLaw, OnwardLaw, StillGivesLaw}

-- The bytes before an offset that is inside.
front-is : (m : Memory) → m.place ≤ length m.whole → before m ≡ take m.place m.whole
front-is m h =
    let none : m.place - length m.whole ≡ 0 = omega (arith, h) in
    rw none (append-nil (take m.place m.whole))

pub over_onward : (m m' : Memory) (bytes : List ℕ) → m.place ≤ length m.whole → WritesOver m m' bytes → Onward m m'
over_onward m m' bytes inside over =
    let there : m'.place ≤ length m'.whole = over.reaches inside in
    let fronts : take m'.place m'.whole ≡ take m.place m.whole ++ bytes = sym (front-is m' there) ∙ over.added ∙ ap (λ (xs : List ℕ). xs ++ bytes) (front-is m inside) in
    let front : length (take m.place m.whole) ≡ m.place = length-take-le m.place m.whole inside in
    let moved = over.place in
    record {
      kept =
          sym (take-take m.place m'.place m'.whole (omega (arith, moved))) ∙ ap (take m.place) fronts ∙ take-append-le m.place (take m.place m.whole) bytes (omega (arith, front)) ∙ take_all m.place (take m.place m.whole) (omega (arith, front));
      longer = omega (arith, moved, there, ap length over.rest, length-drop m'.place m'.whole, length-drop (length bytes) (after m), length-drop m.place m.whole);
      on = omega (arith, moved);
      there = there;
    }

pub onward_law : OnwardLaw
onward_law m m' bytes inside some = over_onward m m' (take some.count bytes) inside some.over

pub onward_both : OnwardBothLaw
onward_both m m' m'' f g = record {
  kept =
      sym (take-take m.place m'.place m''.whole (omega (arith, f.on))) ∙ ap (take m.place) g.kept ∙ take-take m.place m'.place m'.whole (omega (arith, f.on)) ∙ f.kept;
  longer = omega (arith, f.longer, g.longer);
  on = omega (arith, f.on, g.on);
  there = g.there;
}

pub still_gives : StillGivesLaw
still_gives m old begun then known cs means at onward =
    let p = goes_on m in
    let same : take p then.whole ≡ take p old.whole =
    ap (λ (n : ℕ). take n then.whole) (sym at.place) ∙ onward.kept ∙ ap (λ (n : ℕ). take n begun.whole) at.place ∙ ap (take p) at.whole in
    record {
      longer = omega (arith, ap length at.whole, onward.longer);
      blocks = stay_law m old.whole then.whole known cs same means;
    }

-- ---- the bytes after it

pub no_more : (m m' : Memory) (bytes : List ℕ) (size : ℕ) → WritesOver m m' bytes → NoMore m size → NoMore m' size
no_more m m' bytes size over h = omega (arith, h, over.place, ap length over.rest, length-drop (length bytes) (after m))
