-- What every step keeps: it pays a tick or leaves fewer unfinished terms, and the units do not fall.
use Rattle.std.proofs.Common.{◌≡◌, ℕ, zero, suc, ◌+◌, ◌-◌, ◌<◌, ◌≤◌, ◌⊎◌, inl, inr, List, [], ◌∷◌, Option, Some, None, refl, arith, Bool, true, false}
use Rattle.std.specs.Prelude.{ltb, if◌then◌else◌}
use Rattle.std.proofs.lemmas.Bool.{ltb-false}
use Rattle.lua_value.specs.declared.value.Value.{Value}
use Rattle.lua_model.specs.declared.refusal.Refusal.{Refusal}
use Rattle.lua_model.specs.Answer as answer
use Rattle.lua_model.specs.Answer.{Answer}
use Rattle.lua_model.specs.Heap as model
use Rattle.lua_meaning.specs.State.{Focus, Gives, Raises, Context, Resumer, State, Budget, Step, Halt}
use Rattle.lua_meaning.specs.Moves.{ticked, kept, made, refused, answered, finish, fail}
use Rattle.lua_meaning.specs.Size.{focus_size, contexts_size, resumers_size}
use Rattle.lua_meaning.specs.Laws.{Lighter, Rises}

abbrev pub Sound : ℕ → ℕ → ℕ → Step → Type 0
Sound n left units r = Lighter n left r × Rises units r

pub le : (n : ℕ) → n ≤ n
le n = omega arith

pub halt_sound : (n units : ℕ) (s : State) → (s.left ≤ s.left) × (s.aside.heap.units ≤ s.aside.heap.units)
halt_sound n units s = (le s.left, le s.aside.heap.units)

pub tick_sound : (n k : ℕ) (t : State) (f : Focus) (ks : List Context) → t.left ≤ k → Sound n k t.aside.heap.units (ticked k t f ks)
tick_sound n zero t f ks h = (h, le t.aside.heap.units)
tick_sound n (suc k) t f ks h = (inl (omega arith), le t.aside.heap.units)

-- what is left after m ticks
abbrev pub Less : ℕ → ℕ → Type 0
Less a b = (a < b) ⊎ (a ≡ b)

pub kept_sound : (n k units : ℕ) (o : Option model.Heap) (t : State) (f : Focus) (ks : List Context) → Less t.left k
    → focus_size f + contexts_size ks + resumers_size t.aside.resumers < n → ((h : model.Heap) → o ≡ Some h → units ≤ h.units)
    → units ≤ t.aside.heap.units → Sound n k units (kept o t f ks)
kept_sound n k units None t f ks (inl lt) small more same = (omega arith, same)
kept_sound n k units None t f ks (inr is) small more same = (omega (arith, is), same)
kept_sound n k units (Some h) t f ks (inl lt) small more same = (inl lt, more h refl)
kept_sound n k units (Some h) t f ks (inr is) small more same = (inr (is, small), more h refl)

counted_more : (c b : Bool) (n : ℕ) (g h : model.Heap) → (if b then None else Some (record g { units = g.units + n })) ≡ Some h → g.units ≤ h.units
counted_more c true n g h e = absurd (cc)
counted_more c false n g h e = let is : Some (record g { units = g.units + n }) ≡ Some h = e in
    let u : g.units + n ≡ h.units = cc in omega (arith, u)

charged_in : (c : Bool) (n : ℕ) (g h : model.Heap) → model.counted c n g ≡ Some h → g.units ≤ h.units
charged_in false n g h e = let u : g.units ≡ h.units = cc in omega (arith, u)
charged_in true n g h e = counted_more true (ltb g.limit (g.units + n)) n g h e

-- units never fall where they are counted
pub charged_more : (n : ℕ) (g h : model.Heap) → model.charged n g ≡ Some h → g.units ≤ h.units
charged_more n g h e = charged_in g.counts n g h e

minus_less : (k m : ℕ) → m ≤ k → Less (k - m) k
minus_less k zero h = inr (omega arith)
minus_less k (suc m) h = inl (omega arith)

made_in : (n : ℕ) (b : Bool) (bytes : List ℕ) (what : Value → Focus) (s : State) (ks : List Context) → ltb s.left (model.text_ticks bytes) ≡ b
    → ((v : Value) → focus_size (what v) + contexts_size ks + resumers_size s.aside.resumers < n)
    → Sound n s.left s.aside.heap.units
    (if b then Halt Budget s else kept (model.charged (model.text_units bytes) (model.holding bytes s.aside.heap)) (record s { left = s.left - model.text_ticks bytes }) (what (model.text_value bytes s.aside.heap)) ks)
made_in n true bytes what s ks e small = (le s.left, le s.aside.heap.units)
made_in n false bytes what s ks e small =
    let m : model.text_ticks bytes ≤ s.left = ltb-false _ _ e in
    kept_sound n s.left s.aside.heap.units (model.charged (model.text_units bytes) (model.holding bytes s.aside.heap)) (record s { left = s.left - model.text_ticks bytes }) _ ks
    (minus_less s.left (model.text_ticks bytes) m) (small _)
    (λ h is. charged_more (model.text_units bytes) (model.holding bytes s.aside.heap) h is) (le s.aside.heap.units)

pub made_sound : (n : ℕ) (bytes : List ℕ) (what : Value → Focus) (s : State) (ks : List Context)
    → ((v : Value) → focus_size (what v) + contexts_size ks + resumers_size s.aside.resumers < n) → Sound n s.left s.aside.heap.units (made bytes what s ks)
made_sound n bytes what s ks small = made_in n (ltb s.left (model.text_ticks bytes)) bytes what s ks refl small

pub refused_sound : (n : ℕ) (line : Option ℕ) (why : Refusal) (s : State) (ks : List Context)
    → contexts_size ks + resumers_size s.aside.resumers < n → Sound n s.left s.aside.heap.units (refused line why s ks)
refused_sound n line why s ks small = made_sound n _ (λ v. Raises v) s ks (λ v. omega arith)

pub answered_sound : (n : ℕ) (a : Answer) (line : ℕ) (s : State) (ks : List Context)
    → 1 + contexts_size ks + resumers_size s.aside.resumers < n → Sound n s.left s.aside.heap.units (answered a line s ks)
answered_sound n (answer.Plain v) line s ks small = (inr (refl, small), le s.aside.heap.units)
answered_sound n (answer.Fresh bytes) line s ks small = made_sound n bytes (λ v. Gives v) s ks (λ v. small)
answered_sound n (answer.Refused why) line s ks small = refused_sound n (Some line) why s ks (omega arith)

pub finish_sound : (n : ℕ) (rs : List Resumer) (vs : List Value) (s : State) → resumers_size rs ≤ n → Sound n s.left s.aside.heap.units (finish rs vs s)
finish_sound n [] vs s h = (le s.left, le s.aside.heap.units)
finish_sound n (r ∷ rs) vs s h = (inr (refl, omega arith), le s.aside.heap.units)

pub fail_sound : (n : ℕ) (rs : List Resumer) (v : Value) (s : State) → resumers_size rs ≤ n → Sound n s.left s.aside.heap.units (fail rs v s)
fail_sound n [] v s h = (le s.left, le s.aside.heap.units)
fail_sound n (r ∷ rs) v s h = (inr (refl, omega arith), le s.aside.heap.units)
