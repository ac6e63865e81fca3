-- Sessions as the reference prints them: each line with the steps spent, the kept nodes and both counters after it.
-- To unfold `everything` is to unfold each definition that a session runs through. (Written by tools/opened.py.)
use mathlib.Core.List.{List, [], ◌∷◌}
use Prim.Native.Nat.{ℕ, suc}
use native.Mathlib.Decide.{ℕ_discrete, dec_lt}
use Rattle.meaning.specs.Ast.{Decl, same_name, called, name_before, same_tyvar, key, tie, tyvar_before, letter, same_dict, same_field, same_ty, int, bool, count_tys, size, both_same, same_pred}
use Rattle.meaning.specs.Base.{eqb, ltb, found, null, count, any, keep, first, total, nth}
use Rattle.meaning.specs.Budget.{after, step, spend, settled, or_refuse}
use Rattle.meaning.specs.Classes.{supers_known, methods_of, with_class, add_class, or_back, overlaps, none_overlaps, with_instance, add_instance, lookup_method, supers_of, or_next, by_supers, by_super_in, from_givens, chosen, by_inst, all_resolved, applied, from_instance, or_instance, resolve_node, resolve_in}
use Rattle.meaning.specs.Cores.{each_core, or_core, hidden, subst_node, subst_in, apply_core_node, apply_core_in, internal_before, put, sort_by, renamer_from, canonical_renamer, canonical_scheme_and_core, canonicalize_pair}
use Rattle.meaning.specs.Declare.{sig_nodes, pred_nodes, sig_scheme, insert_sigs, process_class_decl, core_nodes, field_nodes, context_binders, all_discharged, fill_at, fill_first, method_core, method_cores, selves, default_core, default_cores, super_cores, process_instance_decl, none_deferred, process_let_decl, check_expr}
use Rattle.meaning.specs.Errors.{number, values, added}
use Rattle.meaning.specs.File.{name_of, name_length, name_text, name_entry, variable, word, tys_of, var_node, con_node, arrow_node, type_node, evar_node, int_node, bool_node, abs_node, app_node, let_node, expr_node, class_entry, pred_entry, instance_entry, let_entry, check_entry, decl_entry, sections, read}
use Rattle.meaning.specs.Generalize.{env_ftv, fill_equal, fill_discharged, with_first, binders_of, fill_alias, fill_aliases, fill_removed, abstracted, simplified, is_own, is_ambiguous, unless_ambiguous, generalize_binding, finalize_expr}
use Rattle.meaning.specs.Infer.{with_env, fresh_tyvar, fresh_dictvar, env_insert, env_restore, apply_schemes, apply_env, fresh_all, instantiate_preds, instantiate, args_of, plain_core, var_core, infer_var, infer_abs, infer_app, infer_let, infer_node, infer_in}
use Rattle.meaning.specs.Listing.{show_nat, show_name, show_tyvar, show_dict_name, show_field, bracket, show_ty, show_pred, show_rest, show_list, show_binder, show_bool, show_core, show_qual, show_value, show_values, show_fields, show_result, show_lines, if_fits, listing, listing_read, listing_of, show_offset, printed}
use Rattle.meaning.specs.Map.{get, insert, remove, elem}
use Rattle.meaning.specs.Reader.{onward, or_bad, item, unless, front, from, field, little, numeral, counted, one_of, tagged, items, section, list_of, pair, end_of_file}
use Rattle.meaning.specs.Reduce.{is_head_normal, contains, discharge, reduce_one, reduce_from, not_root, sorted_out, simplify_from}
use Rattle.meaning.specs.Reserved.{between, digit, letter_of_name, all, spelling, past, digits, begins, made_variable, made_name}
use Rattle.meaning.specs.Session.{Answer, primitives, new, scheme_nodes, env_nodes, instance_nodes, class_nodes, kept, refuses, answer, declare_class, run_decl, over_limit, no_room, declare, session, calls, after_calls, is_accepted, accepted_calls}
use Rattle.meaning.specs.Subst.{or_var, each, apply_node, apply_in, apply_pred, apply_preds, apply_preds_pending, apply_qual, apply_values, compose, agree_at, agree, merge, add, ftv_type, ftv_preds, ftv_qual, without, ftv_scheme, filtered, apply_scheme, occurs}
use Rattle.meaning.specs.Text.{Text, quoted, decimal, packed, unpacked}
use Rattle.meaning.specs.Unify.{bind_other, bind, unify_zip, unify_con, unify_arrow, unify_node, unify_in, match_zip, match_node, match_in, match_pred}
use Prim.Native.String.{String}

-- Named on a proof's `unfolding` line it opens all of them.
unfoldable pub everything : Unit {0}
unfolding same_name called name_before same_tyvar key tie tyvar_before letter same_dict same_field same_ty int bool count_tys size both_same same_pred eqb ltb found null count any keep first total nth after step spend settled or_refuse supers_known methods_of with_class add_class or_back overlaps none_overlaps with_instance add_instance lookup_method supers_of or_next by_supers by_super_in from_givens chosen by_inst all_resolved applied from_instance or_instance resolve_node resolve_in each_core or_core hidden subst_node subst_in apply_core_node apply_core_in internal_before put sort_by renamer_from canonical_renamer canonical_scheme_and_core canonicalize_pair sig_nodes pred_nodes sig_scheme insert_sigs process_class_decl core_nodes field_nodes context_binders all_discharged fill_at fill_first method_core method_cores selves default_core default_cores super_cores process_instance_decl none_deferred process_let_decl check_expr number values added name_of name_length name_text name_entry variable word tys_of var_node con_node arrow_node type_node evar_node int_node bool_node abs_node app_node let_node expr_node class_entry pred_entry instance_entry let_entry check_entry decl_entry sections read env_ftv fill_equal fill_discharged with_first binders_of fill_alias fill_aliases fill_removed abstracted simplified is_own is_ambiguous unless_ambiguous generalize_binding finalize_expr with_env fresh_tyvar fresh_dictvar env_insert env_restore apply_schemes apply_env fresh_all instantiate_preds instantiate args_of plain_core var_core infer_var infer_abs infer_app infer_let infer_node infer_in show_nat show_name show_tyvar show_dict_name show_field bracket show_ty show_pred show_rest show_list show_binder show_bool show_core show_qual show_value show_values show_fields show_result show_lines if_fits listing listing_read listing_of show_offset printed get insert remove elem onward or_bad item unless front from field little numeral counted one_of tagged items section list_of pair end_of_file is_head_normal contains discharge reduce_one reduce_from not_root sorted_out simplify_from between digit letter_of_name all spelling past digits begins made_variable made_name primitives new scheme_nodes env_nodes instance_nodes class_nodes kept refuses answer declare_class run_decl over_limit no_room declare session calls after_calls is_accepted accepted_calls or_var each apply_node apply_in apply_pred apply_preds apply_preds_pending apply_qual apply_values compose agree_at agree merge add ftv_type ftv_preds ftv_qual without ftv_scheme filtered apply_scheme occurs quoted decimal packed unpacked bind_other bind unify_zip unify_con unify_arrow unify_node unify_in match_zip match_node match_in match_pred ℕ_discrete dec_lt
everything = tt

-- A declaration's line, then ` | steps kept t-counter d-counter`.
unfoldable pub metered_lines : ℕ → List Answer → Text
metered_lines k [] cs = cs
metered_lines k (a ∷ rest) cs =
    show_nat k (quoted " " (show_result a.result (quoted " | " (show_nat a.spent (quoted " " (show_nat (kept a.checker) (quoted " "
    (show_nat a.checker.state.tv_counter (quoted " " (show_nat a.checker.state.dv_counter (quoted "\n" (metered_lines (suc k) rest cs))))))))))))

-- A whole session with the meters of each declaration.
unfoldable pub metered : (budget work binders : ℕ) → List Decl → List ℕ
unfolding metered_lines everything
metered budget work binders ks = quoted "declarations " (show_nat (count ks) (quoted "\n" (metered_lines 0 (session budget work binders ks new) [])))

-- What the listing program prints of declarations.
unfoldable pub lined : List Decl → List ℕ
unfolding everything
lined ks = printed (listing 512 65_536 512 65_536 ks)

-- A text's bytes.
unfoldable pub said : String → List ℕ
unfolding quoted
said s = quoted s []
