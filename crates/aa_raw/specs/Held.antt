-- Places as a former: the values in a list of places, each of which is empty or filled.
--     option, w_option      an option, and its `Weighed`
--     slots, w_slots        places
--     slots_recoded         the codes of the values determine the code of the places
--     pair_recoded          the codes of its parts determine the code of a pair
use Rattle.std.specs.Prelude.{◌≡◌, ℕ, max, List, map, Option, Some, None}
use Rattle.std.specs.Option.{option_map}
use mathlib.Core.Path.{refl, sym}
use mathlib.Core.Former.{Former, Count, Row, over, list}
use base.Stored.{Gv, gcons, code_l, code_map}
use denote.Param.Nested.{deepest}
use denote.Param.Weighed.{Weighed, none_max, w_list}

module _ (g : Former {0}) where
  -- the number of values in a row that has those of an option and then `n` more
  abbrev pub option_count : Option g.Shape → Count → Count
  option_count None n = n
  option_count (Some a) n = g.count a n

  abbrev pub option_put : (X : Type 0) (o : Option (g.Of X)) (n : Count) → Row X n
      → Row X (option_count (option_map (g.shape X) o) n)
  option_put X None n t = t
  option_put X (Some y) n t = g.put X y n t

  abbrev pub option_get : (X : Type 0) (a : Option g.Shape) (n : Count) → Row X (option_count a n)
      → Option (g.Of X) × Row X n
  option_get X None n v = (None, v)
  option_get X (Some a) n v = let r : g.Of X × Row X n = g.get X a n v in (Some r.0, r.1)

  pub option_get-put : (X : Type 0) (o : Option (g.Of X)) (n : Count) (t : Row X n)
      → option_get X (option_map (g.shape X) o) n (option_put X o n t) ≡ (o, t)
  option_get-put X None n t = refl
  option_get-put X (Some y) n t = λ i. (Some (g.get-put X y n t i).0, (g.get-put X y n t i).1)

  pub option_put-get : (X : Type 0) (a : Option g.Shape) (n : Count) (v : Row X (option_count a n))
      → ◌≡◌ {A = (b : Option g.Shape) × Row X (option_count b n)} (
        option_map (g.shape X) (option_get X a n v).0,
        option_put X (option_get X a n v).0 n (option_get X a n v).1,
      ) (a, v)
  option_put-get X None n v = refl
  option_put-get X (Some a) n v = λ i. (Some (g.put-get X a n v i).0, (g.put-get X a n v i).1)

  pub option_get-map : (X Y : Type 0) (h : X → Y) (a : Option g.Shape) (n : Count)
      (v : Row X (option_count a n))
      → option_get Y a n (over h (option_count a n) v)
      ≡ (option_map (g.map X Y h) (option_get X a n v).0, over h n (option_get X a n v).1)
  option_get-map X Y h None n v = refl
  option_get-map X Y h (Some a) n v =
      λ i. (Some (g.get-map X Y h a n v i).0, (g.get-map X Y h a n v i).1)

  abbrev pub option : Former {0}
  option = record {
    Of = λ X. Option (g.Of X);
    Shape = Option g.Shape;
    count = option_count;
    shape = λ X. option_map (g.shape X);
    put = option_put;
    get = option_get;
    map = λ X Y h. option_map (g.map X Y h);
    get-put = option_get-put;
    put-get = option_put-get;
    get-map = option_get-map;
  }

  abbrev pub slots : Former {0}
  slots = list option

module _ {g : Former {0}} (w : Weighed g) where
  abbrev pub option_weight : (X : Type 0) → (X → ℕ) → Option (g.Of X) → ℕ
  option_weight X μ None = 0
  option_weight X μ (Some y) = w.weight X μ y

  pub option_puts : (X : Type 0) (μ : X → ℕ) (o : Option (g.Of X)) (n : Count) (t : Row X n)
      → deepest μ ((option g).count ((option g).shape X o) n) ((option g).put X o n t)
      ≡ max (option_weight X μ o) (deepest μ n t)
  option_puts X μ None n t = none_max (deepest μ n t)
  option_puts X μ (Some y) n t = w.puts X μ y n t

  abbrev pub w_option : Weighed (option g)
  w_option = record { weight = option_weight; puts = option_puts }

  abbrev pub w_slots : Weighed (slots g)
  w_slots = w_list w_option

module _ {X Y : Type 0} (c : Option X → Gv) (c' : Option Y → Gv) (h : X → Y)
    (none : c None ≡ c' None) (some : (x : X) → c (Some x) ≡ c' (Some (h x))) where
  one_recoded : (o : Option X) → c o ≡ c' (option_map h o)
  one_recoded None = none
  one_recoded (Some x) = some x

  pub slots_recoded : (cs : List (Option X)) → code_l c' (map (option_map h) cs) ≡ code_l c cs
  slots_recoded cs = sym (code_map c c' (option_map h) one_recoded cs)

pub pair_recoded : {a b c d : Gv} → a ≡ b → c ≡ d → gcons a c ≡ gcons b d
pair_recoded p q = λ i. gcons (p i) (q i)
