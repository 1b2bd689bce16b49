-- What `plan` prints, as the listing in 01's "Figures to check" and the sentences under it have it.
-- Text has words and decimal numbers as bytes; Listing the heading, the step lines, the last line, and the line of a refusal.
-- Below lies planner, whose plan is listed; the program plan, above, prints it.
pub mod Text
pub mod Listing
