-- What is proved of the definitions, for the layers above.
--     Passed: Gives, passed                   what a report gives is such where it is past the last check, by all that the checks before it say
--     Opening: opening_passes                 what an opening that is taken has passed; so its plots are within the net area (document 02, Q-4)
--     Opening: whole_area_opens               and there are such, with plots that are all of the net area
pub mod Passed
pub mod Opening
