-- Laws of texts, of their bytes as one number, and of the reserved forms.
pub mod Alphabet
pub mod Spelled
pub mod Texts
pub mod Loops
pub mod Prefixes
pub mod Made
