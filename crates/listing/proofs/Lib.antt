-- The laws of what is printed: TextLaws of words and of decimal numbers, which read back; ListingCodeLaws of the lines put together.
-- Figures has the listing of Figure 3.1, byte for byte, from its envelope's bytes on; of a plan with no steps; and of a refusal.
-- They stand on the laws of loops in ground, and Figures on the figures of planner.
pub mod TextLaws
pub mod ListingCodeLaws
pub mod Figures
