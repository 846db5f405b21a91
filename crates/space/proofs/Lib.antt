mod Needing
