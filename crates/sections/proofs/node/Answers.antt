-- `sections::node` meets its contract: each section has its own reader. Assumes nothing.
use Rattle.sections.proofs.Going.{node_type, node_expr, node_decl}
use Rattle.sections.proofs.node.Goals as goal

pub returns-in-Types : goal.returns-in-Types
returns-in-Types c = node_type _ _ _ _ _ _ _ c.in-Types.is c.type_node.ensures

pub returns-in-Exprs : goal.returns-in-Exprs
returns-in-Exprs c = node_expr _ _ _ _ _ _ _ c.in-Exprs.is c.expr_node.ensures

pub returns-in-Decls : goal.returns-in-Decls
returns-in-Decls c = node_decl _ _ _ _ _ _ _ c.in-Decls.is c.decl_entry.ensures
