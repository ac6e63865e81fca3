-- Reading a session file: a refusal points into the file, and an accepted file is read whole and names only smaller nodes.
use mathlib.Core.Path.{◌≡◌, refl, ap, sym, ◌∙◌, subst}
use mathlib.Core.Bool.{Bool, true, false}
use mathlib.Core.List.{List, [], ◌∷◌, ◌++◌}
use mathlib.Core.Option.{none, some}
use Prim.Native.Nat.{ℕ, ◌≤◌, ◌<◌}
use native.Mathlib.Omega.{arith}
use Rattle.meaning.specs.Base.{is_yes, if, ltb, any, count, nth}
use Rattle.meaning.specs.Ast.{Name, same_name, named, Ty, var, con, arrow, pred, Expr, evar, eint, ebool, eabs, eapp, elet, class_decl, instance_decl, let_decl, check_decl}
use Rattle.meaning.specs.Errors.{Refusal, format, limit, reserved}
use Rattle.meaning.specs.Reserved.{made_variable, made_name}
use Rattle.meaning.specs.Reader.{Read, got, bad, Reader, onward, item, unless, from, field, numeral, one_of, section, list_of, pair, end_of_file}
use Rattle.meaning.specs.File.{File, name_of, name_length, name_text, name_entry, variable, word, tys_of, var_node, con_node, arrow_node, type_node, evar_node, int_node, bool_node, abs_node, app_node, let_node, expr_node, class_entry, pred_entry, instance_entry, let_entry, check_entry, decl_entry, sections, read}
use Rattle.theorems.proofs.Tests.{some_inj, none_some, ltb_of}
use Rattle.theorems.proofs.Readers.{UpTo, Within, Reads, Smaller, Each, from_count, within_map, then_reads, pure_reads, item_reads, field_reads, numeral_reads, one_of_reads, tagged_reads, section_reads, list_reads}
use Rattle.theorems.proofs.FileNodes.{EachTy, TypeNode, ExprNode, NamesSmaller, AllDiffer, Good, type_map, expr_map, smaller_snoc, smaller_none, differ_none, differ_snoc}

module _ (file : List ℕ) where
  -- A name of the table.
  abbrev Any : {A : Type 0} → A → Type 0
  Any a = Unit {0}

  any_of : {A : Type 0} (xs : List A) → Reads file Any (one_of xs)
  any_of xs at h = within_map file (Smaller xs (count xs)) Any (one_of xs at (from at file)) (λ x s. tt) (one_of_reads file xs at h)

  -- A name that is not of the form.
  unless_reads : (f : Name → Bool) (ns : List Name) → Reads file (λ x. f x ≡ false) (item reserved (one_of ns) (unless f))
  unfolding unless
  unless_reads f ns = item_reads file Any (λ x. f x ≡ false) reserved (one_of ns) _ (λ k n h. h) (any_of ns) λ x y p e. go x y (f x) refl e
    where
      go : (x y : Name) (b : Bool) → f x ≡ b → if b none (some x) ≡ some y → f y ≡ false
      go x y true i e = absurd (none_some y e)
      go x y false i e = subst (λ z. f z ≡ false) (some_inj x y e) i

  variable_reads : (ns : List Name) → Reads file (λ x. made_variable x ≡ false) (variable ns)
  unfolding variable
  variable_reads ns = unless_reads made_variable ns

  word_reads : (ns : List Name) → Reads file (λ x. made_name x ≡ false) (word ns)
  unfolding word
  word_reads ns = unless_reads made_name ns

  length_reads : Reads file Any name_length
  unfolding name_length
  length_reads = item_reads file Any Any format (numeral 1) _ (λ k n h. h) (numeral_reads file 1) λ a b p e. tt

  text_reads : (xs : List Name) (length : ℕ) → AllDiffer xs → Reads file (λ x. AllDiffer (xs ++ x ∷ [])) (name_text xs length)
  unfolding name_text unless
  text_reads xs length h = item_reads file Any (λ x. AllDiffer (xs ++ x ∷ [])) format (item format (field length) name_of) _ (λ k n h. h)
      (item_reads file Any Any format (field length) name_of (λ k n h. h) (field_reads file length) λ a b p e. tt)
      λ x y p e. go x y (any (λ z. is_yes (same_name x z)) xs) refl e
    where
      go : (x y : Name) (b : Bool) → any (λ z. is_yes (same_name x z)) xs ≡ b → if b none (some x) ≡ some y → AllDiffer (xs ++ y ∷ [])
      go x y true i e = absurd (none_some y e)
      go x y false i e = subst (λ z. AllDiffer (xs ++ z ∷ [])) (some_inj x y e) (differ_snoc xs x h i)

  name_reads : (xs : List Name) → AllDiffer xs → Reads file (λ x. AllDiffer (xs ++ x ∷ [])) (name_entry xs)
  unfolding name_entry
  name_reads xs h = then_reads file Any (λ x. AllDiffer (xs ++ x ∷ [])) name_length (name_text xs) length_reads λ length p. text_reads xs length h

  tys_each : (P : Ty → Type 0) (ts : List Ty) → Each P ts → EachTy P (tys_of ts)
  unfolding tys_of
  tys_each P [] h = tt
  tys_each P (t ∷ ts) h = (h.0, tys_each P ts h.1)

  -- A node over those that stand before it.
  abbrev NextType : List Ty → Ty → Type 0
  NextType ts = TypeNode (Smaller ts (count ts))

  abbrev NextExpr : List Expr → Expr → Type 0
  NextExpr es = ExprNode (Smaller es (count es))

  -- The kinds of node, line for line.
  var_reads : (ns : List Name) (ts : List Ty) → Reads file (NextType ts) (var_node ns)
  unfolding var_node
  var_reads ns ts = then_reads file _ _ (variable ns) _ (variable_reads ns) λ x h.
      pure_reads file (NextType ts) (var (named x)) h

  con_reads : (ns : List Name) (ts : List Ty) → Reads file (NextType ts) (con_node ns ts)
  unfolding con_node
  con_reads ns ts = then_reads file _ _ (one_of ns) _ (any_of ns) λ c h.
      then_reads file _ _ (list_of (one_of ts)) _ (list_reads file _ (one_of ts) (one_of_reads file ts)) λ us k.
      pure_reads file (NextType ts) (con c (tys_of us)) (tys_each _ us k)

  arrow_reads : (ts : List Ty) → Reads file (NextType ts) (arrow_node ts)
  unfolding arrow_node
  arrow_reads ts = then_reads file _ _ (one_of ts) _ (one_of_reads file ts) λ a h.
      then_reads file _ _ (one_of ts) _ (one_of_reads file ts) λ b k.
      pure_reads file (NextType ts) (arrow a b) (h, k)

  type_reads : (ns : List Name) (ts : List Ty) → Reads file (NextType ts) (type_node ns ts)
  unfolding type_node
  type_reads ns ts = tagged_reads file (NextType ts) _ (var_reads ns ts, (con_reads ns ts, (arrow_reads ts, tt)))

  evar_reads : (ns : List Name) (es : List Expr) → Reads file (NextExpr es) (evar_node ns)
  unfolding evar_node
  evar_reads ns es = then_reads file _ _ (word ns) _ (word_reads ns) λ x h.
      pure_reads file (NextExpr es) (evar x) h

  int_reads : (es : List Expr) → Reads file (NextExpr es) int_node
  unfolding int_node
  int_reads es = then_reads file _ _ (numeral 8) _ (numeral_reads file 8) λ n h.
      pure_reads file (NextExpr es) (eint n) tt

  bool_reads : (es : List Expr) → Reads file (NextExpr es) bool_node
  unfolding bool_node
  bool_reads es = then_reads file Any _ (item format (numeral 1) (nth (false ∷ true ∷ []))) _
      (item_reads file Any Any format (numeral 1) (nth (false ∷ true ∷ [])) (λ k n h. h) (numeral_reads file 1) λ a b p e. tt) λ b h.
      pure_reads file (NextExpr es) (ebool b) tt

  abs_reads : (ns : List Name) (es : List Expr) → Reads file (NextExpr es) (abs_node ns es)
  unfolding abs_node
  abs_reads ns es = then_reads file _ _ (word ns) _ (word_reads ns) λ x h.
      then_reads file _ _ (one_of es) _ (one_of_reads file es) λ e k.
      pure_reads file (NextExpr es) (eabs x e) (h, k)

  app_reads : (es : List Expr) → Reads file (NextExpr es) (app_node es)
  unfolding app_node
  app_reads es = then_reads file _ _ (one_of es) _ (one_of_reads file es) λ f h.
      then_reads file _ _ (one_of es) _ (one_of_reads file es) λ e k.
      pure_reads file (NextExpr es) (eapp f e) (h, k)

  let_reads : (ns : List Name) (es : List Expr) → Reads file (NextExpr es) (let_node ns es)
  unfolding let_node
  let_reads ns es = then_reads file _ _ (word ns) _ (word_reads ns) λ x h.
      then_reads file _ _ (one_of es) _ (one_of_reads file es) λ e k.
      then_reads file _ _ (one_of es) _ (one_of_reads file es) λ f l.
      pure_reads file (NextExpr es) (elet x e f) (h, k, l)

  expr_reads : (ns : List Name) (es : List Expr) → Reads file (NextExpr es) (expr_node ns es)
  unfolding expr_node
  expr_reads ns es = tagged_reads file (NextExpr es) _ (evar_reads ns es, (int_reads es, (bool_reads es, (abs_reads ns es, (app_reads es, (let_reads ns es, tt))))))

  -- Of a declaration nothing is said but where it lies.
  pred_reads : (ns : List Name) (ts : List Ty) → Reads file Any (pred_entry ns ts)
  unfolding pred_entry
  pred_reads ns ts = then_reads file _ _ (one_of ns) _ (any_of ns) λ c h.
      then_reads file _ _ (one_of ts) _ (any_of ts) λ t k.
      pure_reads file Any (pred c t) tt

  pair_reads : {A : Type 0} (ns : List Name) (xs : List A) → Reads file Any (pair (word ns) (one_of xs))
  unfolding pair
  pair_reads {A = A} ns xs = then_reads file _ _ (word ns) _ (word_reads ns) λ n h.
      then_reads file _ _ (one_of xs) _ (any_of xs) λ x k.
      let p : Name × A = (n, x) in pure_reads file Any p tt

  pairs_read : {A : Type 0} (ns : List Name) (xs : List A) → Reads file (Each Any) (list_of (pair (word ns) (one_of xs)))
  pairs_read ns xs = list_reads file Any (pair (word ns) (one_of xs)) (pair_reads ns xs)

  class_reads : (ns : List Name) (ts : List Ty) (es : List Expr) → Reads file Any (class_entry ns ts es)
  unfolding class_entry
  class_reads ns ts es = then_reads file _ _ (one_of ns) _ (any_of ns) λ c h.
      then_reads file _ _ (variable ns) _ (variable_reads ns) λ a i.
      then_reads file _ _ (list_of (one_of ns)) _ (list_reads file Any (one_of ns) (any_of ns)) λ supers j.
      then_reads file _ _ (list_of (pair (word ns) (one_of ts))) _ (pairs_read ns ts) λ sigs k.
      then_reads file _ _ (list_of (pair (word ns) (one_of es))) _ (pairs_read ns es) λ defaults l.
      pure_reads file Any (class_decl (record { name = c; tyvar = named a; supers = supers; sigs = sigs; defaults = defaults })) tt

  instance_reads : (ns : List Name) (ts : List Ty) (es : List Expr) → Reads file Any (instance_entry ns ts es)
  unfolding instance_entry
  instance_reads ns ts es = then_reads file _ _ (list_of (pred_entry ns ts)) _ (list_reads file Any (pred_entry ns ts) (pred_reads ns ts)) λ context h.
      then_reads file _ _ (pred_entry ns ts) _ (pred_reads ns ts) λ head i.
      then_reads file _ _ (list_of (pair (word ns) (one_of es))) _ (pairs_read ns es) λ methods j.
      pure_reads file Any (instance_decl (record { context = context; head = head; methods = methods })) tt

  decl_reads : (ns : List Name) (ts : List Ty) (es : List Expr) → Reads file Any (decl_entry ns ts es)
  unfolding decl_entry let_entry check_entry
  decl_reads ns ts es = tagged_reads file Any _ (class_reads ns ts es, (instance_reads ns ts es, (a_let, (a_check, tt))))
    where
      a_let : Reads file Any (let_entry ns es)
      a_let = then_reads file _ _ (word ns) _ (word_reads ns) λ x h.
          then_reads file _ _ (one_of es) _ (any_of es) λ e k.
          pure_reads file Any (let_decl x e) tt

      a_check : Reads file Any (check_entry es)
      a_check = then_reads file _ _ (one_of es) _ (any_of es) λ e h.
          pure_reads file Any (check_decl e) tt

  end_reads : Reads file Any end_of_file
  unfolding end_of_file
  end_reads at h = go (from at file) refl
    where
      go : (bs : List ℕ) → bs ≡ from at file → Within file Any (end_of_file at bs)
      go [] e = (h, e, tt)
      go (b ∷ bs) e = h

  sections_read : Reads file Good sections
  unfolding sections
  sections_read = then_reads file _ _ (section 1_024 name_entry) _ (section_reads file AllDiffer 1_024 name_entry name_reads differ_none) λ ns h.
      then_reads file _ _ (section 4_096 (type_node ns)) _ (section_reads file (NamesSmaller TypeNode) 4_096 (type_node ns) (more_types ns) (smaller_none TypeNode)) λ ts i.
      then_reads file _ _ (section 4_096 (expr_node ns)) _ (section_reads file (NamesSmaller ExprNode) 4_096 (expr_node ns) (more_exprs ns) (smaller_none ExprNode)) λ es j.
      then_reads file _ _ (section 512 (λ earlier. decl_entry ns ts es)) _ (section_reads file Any 512 (λ earlier. decl_entry ns ts es) (λ ds k. decl_reads ns ts es) tt) λ ds k.
      then_reads file _ _ end_of_file _ end_reads λ u l.
      pure_reads file Good (record { names = ns; types = ts; exprs = es; decls = ds }) (record { names_differ = h; types_smaller = i; exprs_smaller = j })
    where
      more_types : (ns : List Name) (ts : List Ty) → NamesSmaller TypeNode ts → Reads file (λ t. NamesSmaller TypeNode (ts ++ t ∷ [])) (type_node ns ts)
      more_types ns ts h at i = within_map file _ _ (type_node ns ts at (from at file)) (λ t n. smaller_snoc TypeNode type_map ts t h n) (type_reads ns ts at i)

      more_exprs : (ns : List Name) (es : List Expr) → NamesSmaller ExprNode es → Reads file (λ e. NamesSmaller ExprNode (es ++ e ∷ [])) (expr_node ns es)
      more_exprs ns es h at i = within_map file _ _ (expr_node ns es at (from at file)) (λ e n. smaller_snoc ExprNode expr_map es e h n) (expr_reads ns es at i)

-- ## the theorems
-- A refusal points into the file or at its end, and an accepted file is a good one.
pub read_within : (bytes : List ℕ) → Within bytes Good (read bytes)
unfolding read from
read_within bytes = go (ltb 65_535 (count bytes))
  where
    go : (b : Bool) → Within bytes Good (elim b [ true ↦ bad (limit 0) | false ↦ sections 0 bytes ])
    go true = omega arith
    go false = sections_read bytes 0 (omega arith)

-- Each refusal is one of 1 to 3, and its offset lies in the file or at its end.
pub refused_within : (bytes : List ℕ) (r : Refusal) → read bytes ≡ bad r → UpTo (count bytes) r
refused_within bytes r e = subst (Within bytes Good) e (read_within bytes)

pub format_within : (bytes : List ℕ) (k : ℕ) → read bytes ≡ bad (format k) → k ≤ count bytes
format_within bytes k e = refused_within bytes (format k) e

pub limit_within : (bytes : List ℕ) (k : ℕ) → read bytes ≡ bad (limit k) → k ≤ count bytes
limit_within bytes k e = refused_within bytes (limit k) e

pub reserved_within : (bytes : List ℕ) (k : ℕ) → read bytes ≡ bad (reserved k) → k ≤ count bytes
reserved_within bytes k e = refused_within bytes (reserved k) e

-- No two names of an accepted file are equal, each node names only nodes of smaller number, and none a reserved name.
pub accepted_good : (bytes : List ℕ) (f : File) (next : ℕ) (rest : List ℕ) → read bytes ≡ got f next rest → Good f
accepted_good bytes f next rest e = (subst (Within bytes Good) e (read_within bytes)).2

-- Nothing is left.
abbrev Ended : {A : Type 0} → Read A → Type 0
Ended (got a next rest) = rest ≡ []
Ended (bad r) = Unit {0}

then_ended : {A B : Type 0} (o : Read A) (f : A → Reader B) → ((a : A) (at : ℕ) (bs : List ℕ) → Ended (f a at bs)) → Ended (onward o f)
unfolding onward
then_ended (got a next rest) f h = h a next rest
then_ended (bad r) f h = tt

sections_ended : (at : ℕ) (bs : List ℕ) → Ended (sections at bs)
unfolding sections end_of_file onward
sections_ended at bs =
    then_ended (section 1_024 name_entry at bs) _ λ ns at bs.
    then_ended (section 4_096 (type_node ns) at bs) _ λ ts at bs.
    then_ended (section 4_096 (expr_node ns) at bs) _ λ es at bs.
    then_ended (section 512 (λ earlier. decl_entry ns ts es) at bs) _ λ ds at bs.
    last (record { names = ns; types = ts; exprs = es; decls = ds }) at bs
  where
    last : (f : File) (at : ℕ) (bs : List ℕ) → Ended (onward (end_of_file at bs) (λ u at bs. got f at bs))
    last f at [] = refl
    last f at (b ∷ bs) = tt

read_ended : (bytes : List ℕ) → Ended (read bytes)
unfolding read
read_ended bytes = go (ltb 65_535 (count bytes))
  where
    go : (b : Bool) → Ended {A = File} (elim b as (λ _. Read File) [ true ↦ bad (limit 0) | false ↦ sections 0 bytes ])
    go true = tt
    go false = sections_ended 0 bytes

-- An accepted file is read to its last byte.
pub accepted_whole : (bytes : List ℕ) (f : File) (next : ℕ) (rest : List ℕ) → read bytes ≡ got f next rest → next ≡ count bytes
unfolding count
accepted_whole bytes f next rest e =
    let w = subst (Within bytes Good) e (read_within bytes) in
    let z : from next bytes ≡ [] = sym w.1 ∙ subst Ended e (read_ended bytes) in
    let c : count (from next bytes) ≡ 0 = ap count z in
    omega (arith, w.0, from_count next bytes w.0, c)

-- A file of more than 65,535 bytes is refused before all.
pub too_long : (bytes : List ℕ) → 65_535 < count bytes → read bytes ≡ bad (limit 0)
unfolding read
too_long bytes h = ap (λ b. elim b as (λ _. Read File) [ true ↦ bad (limit 0) | false ↦ sections 0 bytes ]) (ltb_of 65_535 (count bytes) h)
