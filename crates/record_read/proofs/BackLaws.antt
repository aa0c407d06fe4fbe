-- What `read` answers and leaves, from what its parts do.
use Rattle.std.proofs.Common.{ℕ, ◌+◌, ◌*◌, ◌≤◌, ◌≡◌, refl, sym, ◌∙◌, ap, subst, arith, true, false, List, [], ◌++◌, map, length, take, drop, replicate, Ok, Err}
use Rattle.std.proofs.Common.{ℤ}
use Rattle.std.proofs.Math.ListN.{length-replicate, length-map}
use Rattle.std.proofs.Math.Nat.{mul-le-mul}
use Rattle.std.proofs.Math.Seq.{sets, sets-eq, take_at, length-take-le}
use Rattle.depth_table.specs.Table.{most_values}
use Rattle.pattern.specs.Refusal.{number_of}
use Rattle.pattern.specs.Size.{for_size}
use Rattle.pattern.specs.Words.{patterns_of}
use Rattle.record.specs.declared.Record.{Record}
use Rattle.record.specs.Lent.{fields_of}
use Rattle.sheet_grid.specs.Grid.{longest, most_samples}
use Rattle.sheet_grid.proofs.GridLaws.{blocks-by-area}
use Rattle.sheet.specs.declared.PlaceInput.{PlaceInput}
use Rattle.sheet.specs.declared.Sheet.{Sheet}
use Rattle.sheet.specs.Place.{Material, Fits, placed_in_turn}
use Rattle.sheet.specs.State.{state_of, area, blocks_of, finished}
use Rattle.sheet.specs.Told.{material_in}
use Rattle.record_text.specs.Lines.{Lined, refused_at, read, lines_then}
use Rattle.record_text.proofs.LinesLaws.{refused-read, lines-parts}
use Rattle.record_file.specs.Reading.{File, Aids, aids_in, front_lines, file_lines, lists_ok, read_lengths_ok, read_file}
use Rattle.record_file.specs.declared.lists.ReadInput.{ReadInput}
use Rattle.record_file.proofs.FileLaws.{size_small}
use Rattle.record_read.specs.declared.blocks.Reading.{Reading}
use Rattle.record_read.specs.declared.front.Front.{Front}
use Rattle.record_read.specs.declared.lines.LineRefusal.{LineRefusal}
use Rattle.record_read.specs.Back.{before_zeros, refused_back, material_for, in_turn, drawn_on, samples_back, Lent, lent_of, Leaves}
use Rattle.record_read.specs.Step.{one_list, Begun, FrontRead, FrontSound, Counted, HasRoom, begun_at, front_size, table_of, block_lines, sheet_lines, placed_all, Left, ReadsAll}
use Rattle.record_read.proofs.EmptyLaws.{empty-same}
use Rattle.record_read.proofs.RestLaws.{size-placeable}

pub table-first : (t : List ℕ) → length t ≤ most_values → take (length t) (sets (replicate most_values 0) 0 t) ≡ t
table-first t h =
    ap (take (length t)) (sets-eq t (replicate most_values 0) 0 (omega (arith, length-replicate {A = ℕ} most_values 0)))
    ∙ take_at t (drop (0 + length t) (replicate most_values 0)) (length t) refl

-- a refusal: the answer has its number and line, and nothing is altered
pub all-refused : (A : Aids) (before : Lent) {x : Lined File} {n k : ℕ} → refused_at n k ≡ x → Leaves A x before (refused_back n k) before
all-refused A before e = rw (← e) (record { answered = refl; kept = refl; drawn = refl })

-- ---- the lengths, and the lines before the records

module _ (A : Aids) (samples records : ℕ) (s : List ℕ) where
  pub read_short : read_lengths_ok samples records (lists_ok A) ≡ false → read_file A samples records s ≡ refused_at 2 0
  unfolding read_file
  read_short e = rw e

  pub read-passed : read_lengths_ok samples records (lists_ok A) ≡ true → read_file A samples records s ≡ file_lines A s
  unfolding read_file
  read-passed e = rw e

pub front-refused : (A : Aids) (s : List ℕ) {n k : ℕ} → refused_at n k ≡ front_lines (length A.texture) s → refused_at n k ≡ file_lines A s
unfolding file_lines
front-refused A s e = rw (← e) refl

-- the file, once the lines before its records are read
pub file-is : (A : Aids) (s : List ℕ) (f : Front) → FrontRead (length A.texture) s f → file_lines A s ≡ sheet_lines A f
unfolding file_lines
file-is A s f r = rw (← r.is) refl

-- ---- the records

-- the same refusal, of lines whose values are put in another way
same-lines : {A B : Type 0} (f : A → B) (x : Lined A) {n k : ℕ} → refused_at n k ≡ lines_then x (λ a s. read (f a) s) → refused_at n k ≡ x
same-lines {A} f (refused_at i j) e = ap back e
  where
    back : {B : Type 0} → Lined B → Lined A
    back (refused_at n k) = refused_at n k
    back (read b s) = refused_at 0 0
same-lines f (read a s) e = refused-read e

same-value : {A : Type 0} {a b : A} {s t : List ℕ} → read a s ≡ read b t → a ≡ b
same-value e = cc

-- records are placed with what the file is read with, for its size, and the file's table
pub record Lends (A : Aids) (f : Front) (I : PlaceInput) : Type 0 where
  pub list : patterns_of f.sheet.n I.list.words.now ≡ A.list f.sheet.n
  pub count : I.list.count ≡ A.count f.sheet.n
  pub table : I.table.now ≡ table_of f
  pub texture : I.texture.now ≡ A.texture

pub lends_in :
    (R : ReadInput) (f : Front) (I : PlaceInput) → I.list.words.now ≡ for_size f.sheet.n R.list4.words.now R.list8.words.now R.list16.words.now
    → I.list.count ≡ for_size f.sheet.n R.list4.count R.list8.count R.list16.count → I.table.now ≡ table_of f → I.texture.now ≡ R.texture.now
    → Lends (aids_in R) f I
lends_in R f I w c t x = record { list = ap (patterns_of f.sheet.n) w; count = c; table = t; texture = x }

-- where reading is once the lines before the records are read, by the table's length
pub begun_line : (f : Front) (k : ℕ) → k ≡ length (table_of f) → ◌≡◌ {A = Reading} (record { rest = f.rest; line = 5 + k; sheet = f.sheet }) (begun_at f)
begun_line f k e = rw e refl

module _ (A : Aids) (f : Front) (sound : FrontSound (length A.texture) f) where
  pub values-few : length (table_of f) ≤ most_values
  values-few = (size_small (length A.texture) (front_size f) sound.size).values

  pub area-few : area f.sheet ≤ most_samples
  area-few =
      let z = size_small (length A.texture) (front_size f) sound.size in
      mul-le-mul {n₁ = f.sheet.width} {m₁ = f.sheet.height} {n₂ = longest} {m₂ = longest} z.width z.height

  -- where a small sheet's samples have room, so have its blocks
  pub small-room : {samples records : ℕ} → area f.sheet ≤ samples → samples ≤ records * 16 → HasRoom f samples records
  small-room h k =
      let s = size_small (length A.texture) (front_size f) sound.size in
      record { samples_inside = h; records_in = omega (arith, blocks-by-area f.sheet.n f.sheet.width f.sheet.height s.low) }

  module _ (I : PlaceInput) (lends : Lends A f I) where
    abbrev M : Material
    M = material_in f.sheet.n I

    material_is : material_for A f.sheet.n (table_of f) ≡ M
    material_is = rw (lends.list, lends.count, lends.table, lends.texture) refl

    empty_is : state_of f.sheet.n f.sheet.width f.sheet.height 0 ≡ f.sheet
    empty_is = ap (state_of f.sheet.n f.sheet.width f.sheet.height) (sym sound.empty)

    pub begun :
        {r : Reading} {samples records : ℕ} → r ≡ begun_at f → Counted A f.sheet.n → samples ≡ area f.sheet → records ≡ blocks_of f.sheet
        → Begun I r samples records
    begun {r} {samples} {records} from counted s b =
        subst (λ (q : Reading). Begun I q samples records) (sym from)
        (record {
          empty = sound.empty;
          placeable = rw (s, ← material_is) (subst (λ (S : Sheet). Fits S (material_for A f.sheet.n (table_of f)) (area f.sheet)) empty_is
              (size-placeable A (front_size f) (table_of f) sound.size refl counted));
          room = sym b;
          low = omega (arith, values-few);
        })

    -- the lines of the records, by what they are judged with
    abbrev lines_by : List ℕ → ℕ → List ℕ → List ℕ → Lined (List Record)
    lines_by list count texture table = block_lines (record { list = λ n. list; count = λ n. count; texture = texture }) (length table) (begun_at f)

    lines_are : block_lines (one_list I.list.words.now I.list.count I.texture.now) (length I.table.now) (begun_at f) ≡ block_lines A (length (table_of f)) (begun_at f)
    lines_are =
        ap (λ (l : List ℕ). lines_by l I.list.count I.texture.now I.table.now) lends.list
        ∙ ap (λ (k : ℕ). lines_by (A.list f.sheet.n) k I.texture.now I.table.now) lends.count
        ∙ ap (λ (t : List ℕ). lines_by (A.list f.sheet.n) (A.count f.sheet.n) t I.table.now) lends.texture
        ∙ ap (λ (t : List ℕ). lines_by (A.list f.sheet.n) (A.count f.sheet.n) A.texture t) lends.table

    -- a line of a record is refused
    pub rest-refused :
        {r : Reading} {samples : List ℕ} {new : Left} {e : LineRefusal} → r ≡ begun_at f → ReadsAll I r samples new (Err e)
        → refused_at (number_of e.refusal) e.line ≡ sheet_lines A f
    rest-refused {samples = samples} {new} {e} from all =
        let q = subst (λ (r : Reading). ReadsAll I r samples new (Err e)) from all in
        let x = block_lines A (length (table_of f)) (begun_at f) in
        rw (← same-lines (placed_all M f.sheet samples) x (rw lines_are at q.told)) refl

    module _ (samples : List ℕ) {drawn : List ℕ} {kept : List (List ℤ)} {S : Sheet} (before : Lent) (long : length samples ≡ area f.sheet) (done : S ≡ finished f.sheet) where
      rest-of :
          (l : List Record) (u : List ℕ) → block_lines A (length (table_of f)) (begun_at f) ≡ read l u
          → ◌≡◌ {A = Left} (drawn, kept) (placed_all M f.sheet samples l) → length kept ≡ blocks_of f.sheet
          → Leaves A (sheet_lines A f) before (record { refusal = 0; line = 0; sheet = S; values = length (table_of f); table = before_zeros (table_of f) })
          (lent_of (drawn ++ drop (area f.sheet) before.samples) (kept ++ drop (blocks_of f.sheet) before.records))
      unfolding samples_back
      rest-of l u is left whole =
          let stored : kept ≡ map fields_of l = ap (λ (y : Left). y.1) left in
          let number : length l ≡ blocks_of f.sheet = sym (length-map l fields_of) ∙ ap length (sym stored) ∙ whole in
          let z = size_small (length A.texture) (front_size f) sound.size in
          let E = state_of f.sheet.n f.sheet.width f.sheet.height 0 in
          let painted : drawn ≡ drawn_on E M (in_turn l) =
          ap (λ (y : Left). y.0) left
          ∙ subst (λ (T : Sheet). placed_in_turn T M (in_turn l) samples (blocks_of f.sheet) ≡ drawn_on E M (in_turn l)) empty_is
          (empty-same f.sheet.n f.sheet.width f.sheet.height z.size z.sides M (in_turn l) samples long) in
          rw is
          (record {
            answered = rw done refl;
            kept = rw (stored, number) refl;
            drawn = ap (λ (y : List ℕ). y ++ drop (area f.sheet) before.samples) (painted ∙ ap (λ (m : Material). drawn_on E m (in_turn l)) (sym material_is));
          })

    -- all is read, and copied to the lent slices
    pub rest-read :
        {r : Reading} {samples drawn : List ℕ} {kept : List (List ℤ)} {S : Sheet} (more : List ℕ) (more' : List (List ℤ)) (before : Lent)
        → r ≡ begun_at f → ReadsAll I r samples (drawn, kept) (Ok S)
        → length samples ≡ area f.sheet → length drawn ≡ length samples → length kept ≡ blocks_of f.sheet
        → {i j : ℕ} {to : List ℕ} {to' : List (List ℤ)} → i ≡ area f.sheet → j ≡ blocks_of f.sheet
        → to ≡ take i (drawn ++ more) → to' ≡ take j (kept ++ more')
        → {values : ℕ} {table : List ℕ} → values ≡ length (table_of f) → table ≡ before_zeros (table_of f)
        → Leaves A (sheet_lines A f) before (record { refusal = 0; line = 0; sheet = S; values = values; table = table })
        (lent_of (to ++ drop i before.samples) (to' ++ drop j before.records))
    rest-read {samples = samples} {drawn} {kept} {S} more more' before from all long same whole e m d k v t =
        let q = subst (λ (r : Reading). ReadsAll I r samples (drawn, kept) (Ok S)) from all in
        let x = block_lines A (length (table_of f)) (begun_at f) in
        let p = lines-parts (λ l s. read (placed_all M f.sheet samples l) s) x (drawn, kept) [] (sym (rw lines_are at q.told)) in
        rw (v, t, d, k, e, m, take_at drawn more (area f.sheet) (same ∙ long), take_at kept more' (blocks_of f.sheet) whole)
        (rest-of samples before long q.done p.value p.rest p.first (sym (same-value p.then)) whole)

-- the first k places of an array of n
pub places-in : {A : Type 0} (d : A) (k m n : ℕ) → k ≡ m → m ≤ n → length (take k (replicate n d)) ≡ m
places-in {A} d k m n e h = length-take-le k (replicate n d) (omega (arith, e, h, length-replicate {A = A} n d)) ∙ e

-- what reading cites, of the lengths and of the lines before the records
pub ruleset opened = (read_short, read-passed, all-refused, file-is)
